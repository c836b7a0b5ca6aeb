-- What kq_read gave, kq_write takes back, over what the two promise. Assumes nothing.
use Prim.Native.Nat.{ℕ, ◌<◌, ◌≤◌}
use mathlib.Core.List.{List, ◌++◌}
use mathlib.Core.Path.{◌≡◌, sym, ◌∙◌, subst}
use borrow.Author.Tests.{le-leb}
use lib.ListN.{length, get_or, drop}
use Rattle.message.specs.declared.Message.{Message}
use Rattle.std.specs.Prelude.{Ok}
use Rattle.message.specs.Write.{bytes}
use Rattle.message.proofs.Accepted.{accepted}
use Rattle.message.proofs.RoundTrip.{write_after_read}
use Rattle.capi.specs.Filled.{inside}
use Rattle.writer.specs.Told.{Writes}
use Rattle.capi.specs.Flat.{flat, read_flat, write_flat}
use Rattle.capi.proofs.Fitting.{Fits}
use Rattle.capi.proofs.FlatForm.{unflat-flat}
use Rattle.capi.proofs.ReadFits.{read_fits}

-- bytes that are read as a message
module _ (version in_block : ℕ) (xs : List ℕ) (small : (i : ℕ) → get_or xs i 0 < 256) (m : Message) (given : read_flat version in_block xs ≡ Ok m) where
  fits : Fits m
  fits =
      let a = accepted (record { number = version }) (inside in_block) xs m given in
      subst Fits (sym a.message) (read_fits (inside in_block) xs small a.short a.kind)

  -- the flat form of bytes that were read, with those bytes as source, is written as those bytes
  pub taken_back : write_flat version in_block (flat m) xs ≡ bytes xs
  taken_back = rw (unflat-flat m fits) (write_after_read (record { number = version }) (inside in_block) xs small m given)

  -- what kq_write then returns, its result, and the output, which is no shorter
  pub written_back :
      (out out' : List ℕ) (returned result : ℕ) → Writes (write_flat version in_block (flat m) xs) out returned result out' → length xs ≤ length out
      → (returned ≡ 0) × (result ≡ length xs) × (out' ≡ xs ++ drop (length xs) out)
  written_back out out' returned result w l =
      let t = le-leb (length xs) (length out) l in
      (w.number ∙ rw (taken_back, t), w.told ∙ rw (taken_back, t), w.output ∙ rw (taken_back, t))
