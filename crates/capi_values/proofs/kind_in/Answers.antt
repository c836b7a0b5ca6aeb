use Rattle.capi_values.proofs.Flatness.{too_big}
use Rattle.capi_values.proofs.kind_in.Goals as goal

pub returns-else-oid-le4294967295 : goal.returns-else-oid-le4294967295
returns-else-oid-le4294967295 c = too_big c.args.oid c.if-oid-le4294967295.false
