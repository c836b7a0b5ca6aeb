use Rattle.writer.proofs.Told.{tells}
use Rattle.capi_values.proofs.kq_value_write.Goals as goal

pub returns-in-Ok : goal.returns-in-Ok
returns-in-Ok c = tells _ _ _ _ _ c.write_flat.ensures c.in-Ok.is

pub returns-in-Err : goal.returns-in-Err
returns-in-Err c = tells _ _ _ _ _ c.write_flat.ensures c.in-Err.is
