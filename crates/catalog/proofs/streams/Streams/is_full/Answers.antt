use Rattle.std.proofs.Common.{sym, ◌∙◌, ap, not}
use Rattle.std.proofs.Math.Bool.{not-not}
use Rattle.catalog.proofs.StreamLaws.{any_found}
use Rattle.catalog.proofs.Opens.{no_place}
use Rattle.catalog.proofs.streams.Streams.is_full.Goals as goal

pub returns : goal.returns
returns c = let s = c.args.self.now in sym (not-not c.is_none.result) ∙ ap not (sym c.is_none.ensures ∙ any_found s 0 _ c.find.ensures) ∙ no_place s
