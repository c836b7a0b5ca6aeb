use mathlib.Core.Path.{refl, ◌∙◌, ap}
use denote.Bor.{Bor}
use mathlib.Core.List.{List}
use Prim.Native.Nat.{ℕ}
use Rattle.session.proofs.Listings.{part_is}
use Rattle.session.proofs.part.Goals as goal

pub returns : goal.returns
returns c = let a = c.args in ap (λ (x : Bor (List ℕ)). x.now) c.unwrap_or.ensures ∙ part_is a.start a.end a.bytes.now c.get.result _ refl c.get.ensures.lookup
