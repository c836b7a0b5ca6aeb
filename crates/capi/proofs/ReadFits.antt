-- The numbers of what was read fit their fields. Assumes nothing.
use Prim.Native.Nat.{ℕ, ◌^◌, ◌<◌, ◌≤◌}
use mathlib.Core.List.{List, [], ◌∷◌}
use mathlib.Core.Bool.{Bool, true, false, cond}
use native.Mathlib.Omega.{arith}
use lib.Dec.{eqb}
use lib.ListN.{length, get_or}
use mir.Syntax.{w64}
use mir.Val.{SFits, to_z}
use mir.ValLaws.{to_z-Fits}
use Rattle.wire.specs.declared.Span.{Span}
use Rattle.wire.specs.Cursors.{Cursor, Taken}
use Rattle.std.specs.Prelude.{Ok, Err}
use Rattle.wire.specs.Numbers.{most32, most64}
use Rattle.wire.specs.Fields.{number_field, letter_field, text_field, bytes_field, value_field, position_of}
use Rattle.wire.proofs.Fields.{value_le}
use Rattle.wire.proofs.Cases.{number_cases, letter_cases, text_cases, bytes_cases}
use Rattle.message.specs.Layout.{id, number_of, Optional, optional, xid_field, tuple_end, read_fields}
use Rattle.message.specs.declared.kinds.Kind.{Kind}
use Rattle.message.specs.Kinds.{begin, commit, origin, relation, type, insert, update, delete, truncate, message, stream_start, stream_stop, stream_commit, stream_abort, layout, key_or_old}
use Rattle.message.specs.Messages.{largest, message_of}
use Rattle.message.proofs.Parts.{TimeFits, kind_back, parts_back}
use Rattle.capi.proofs.Fitting.{Fit, PartsFit, Fits}

module _ (b : Bool) (xs : List ℕ) (small : (i : ℕ) → get_or xs i 0 < 256) (short : length xs ≤ largest) where
  -- A FIELD, at any cursor

  number_small : (w low high n : ℕ) (c : Cursor) → high < 256 ^ w → (number_field w low high n xs c).value < 256 ^ w
  number_small w low high n c h = let v = value_le w low high n xs c in omega arith

  number_fit : (w low high n : ℕ) (c : Cursor) → high < 256 ^ w → Fit (w ∷ []) ((number_field w low high n xs c).value ∷ [])
  number_fit w low high n c h = (number_small w low high n c h, tt)

  letter_fit : (set : List ℕ) (c : Cursor) → Fit (1 ∷ []) ((letter_field set xs c).value ∷ [])
  unfolding letter_field
  letter_fit set (Err r) = (omega arith, tt)
  letter_fit set (Ok a) = letter_cases set xs a (λ (f : Taken ℕ). Fit (1 ∷ []) (f.value ∷ [])) (λ k. (omega arith, tt)) (λ h i. (small a, tt))

  abbrev SpanFits : Taken Span → Type 0
  SpanFits f = Fit (8 ∷ 8 ∷ []) (f.value.start ∷ f.value.length ∷ [])

  text_fit : (c : Cursor) → SpanFits (text_field xs c)
  unfolding text_field
  text_fit (Err r) = (omega arith, (omega arith, tt))
  text_fit (Ok a) = text_cases xs a SpanFits (omega arith, (omega arith, tt)) (λ h. (omega arith, (omega arith, tt)))

  bytes_fit : (n : ℕ) (c : Cursor) → SpanFits (bytes_field n xs c)
  unfolding bytes_field
  bytes_fit n (Err r) = (omega arith, (omega arith, tt))
  bytes_fit n (Ok a) = bytes_cases xs a SpanFits (omega arith, (omega arith, tt)) n (λ h. (omega arith, (omega arith, tt)))

  value_fit : (c : Cursor) → SpanFits (value_field xs c)
  unfolding value_field
  value_fit c = bytes_fit (number_field 4 0 0x7FFFFFFF 4 xs c).value (number_field 4 0 0x7FFFFFFF 4 xs c).next

  xid_fit : (c : Cursor) → Fit (4 ∷ []) ((xid_field b xs c).value ∷ [])
  unfolding xid_field
  xid_fit c = go b
    where
      go : (t : Bool) → Fit (4 ∷ []) ((cond t (number_of id xs c) (record { value = 0; next = c })).value ∷ [])
      go true = let v = value_le 4 1 most32 4 xs c in (omega arith, tt)
      go false = (omega arith, tt)

  -- where the next field starts
  after-number : (w low high n : ℕ) (c : Cursor) → position_of (number_field w low high n xs c).next < 256 ^ 8
  unfolding number_field
  after-number w low high n (Err r) = omega arith
  after-number w low high n (Ok a) = number_cases w low high n xs a (λ (f : Taken ℕ). position_of f.next < 256 ^ 8) (λ k. omega arith) (λ h. omega arith)

  after-letter : (set : List ℕ) (c : Cursor) → position_of (letter_field set xs c).next < 256 ^ 8
  unfolding letter_field
  after-letter set (Err r) = omega arith
  after-letter set (Ok a) = letter_cases set xs a (λ (f : Taken ℕ). position_of f.next < 256 ^ 8) (λ k. omega arith) (λ h i. omega arith)

  old_fit : (c : Cursor) → (let o = optional key_or_old xs c in Fit (1 ∷ 8 ∷ []) (o.letter ∷ o.start ∷ []))
  unfolding optional
  old_fit c = go (eqb (letter_field key_or_old xs c).value 0) (letter_fit key_or_old c).0 (after-letter key_or_old c)
    where
      go :
          (t : Bool) → (letter_field key_or_old xs c).value < 256 ^ 1 → position_of (letter_field key_or_old xs c).next < 256 ^ 8
          → (let k = letter_field key_or_old xs c in
          let o = cond {A = Optional} t (record { letter = 0; start = 0; next = c }) (record { letter = k.value; start = position_of k.next; next = tuple_end xs k.next }) in
          Fit (1 ∷ 8 ∷ []) (o.letter ∷ o.start ∷ []))
      go true l s = (omega arith, (omega arith, tt))
      go false l s = (l, (s, tt))

  -- THE KINDS

  parts_fit : (k : Kind) → PartsFit (layout k) (read_fields b (layout k) xs (Ok 1)).parts
  parts_fit begin = (number_fit _ _ _ _ _ (omega arith), (number_fit _ _ _ _ _ (omega arith), (number_fit _ _ _ _ _ (omega arith), tt)))
  parts_fit commit = (number_fit _ _ _ _ _ (omega arith), (number_fit _ _ _ _ _ (omega arith), (number_fit _ _ _ _ _ (omega arith), (number_fit _ _ _ _ _ (omega arith), tt))))
  parts_fit origin = (number_fit _ _ _ _ _ (omega arith), (text_fit _, tt))
  parts_fit relation = (xid_fit _, (number_fit _ _ _ _ _ (omega arith), (text_fit _, (text_fit _, (letter_fit _ _, ((number_small _ _ _ _ _ (omega arith), (after-number _ _ _ _ _, tt)), tt))))))
  parts_fit type = (xid_fit _, (number_fit _ _ _ _ _ (omega arith), (text_fit _, (text_fit _, tt))))
  parts_fit insert = (xid_fit _, (number_fit _ _ _ _ _ (omega arith), (tt, ((after-letter _ _, tt), tt))))
  parts_fit update = (xid_fit _, (number_fit _ _ _ _ _ (omega arith), (old_fit _, (tt, ((after-letter _ _, tt), tt)))))
  parts_fit delete = (xid_fit _, (number_fit _ _ _ _ _ (omega arith), (letter_fit _ _, ((after-letter _ _, tt), tt))))
  parts_fit truncate = (xid_fit _, ((number_small _ _ _ _ _ (omega arith), (number_small _ _ _ _ _ (omega arith), (after-number _ _ _ _ _, tt))), tt))
  parts_fit message = (xid_fit _, (number_fit _ _ _ _ _ (omega arith), (number_fit _ _ _ _ _ (omega arith), (text_fit _, (value_fit _, tt)))))
  parts_fit stream_start = (number_fit _ _ _ _ _ (omega arith), (number_fit _ _ _ _ _ (omega arith), tt))
  parts_fit stream_stop = tt
  parts_fit stream_commit = (number_fit _ _ _ _ _ (omega arith), (number_fit _ _ _ _ _ (omega arith), (number_fit _ _ _ _ _ (omega arith), (number_fit _ _ _ _ _ (omega arith), (number_fit _ _ _ _ _ (omega arith), tt)))))
  parts_fit stream_abort = (number_fit _ _ _ _ _ (omega arith), (number_fit _ _ _ _ _ (omega arith), tt))

  time-fits : (c : Cursor) → SFits w64 (to_z w64 (number_field 8 0 most64 4 xs c).value)
  time-fits c = to_z-Fits w64 (number_field 8 0 most64 4 xs c).value (record { fits = number_small 8 0 most64 4 c (omega arith) })

  times_fit : (k : Kind) → TimeFits (message_of k (read_fields b (layout k) xs (Ok 1)).parts)
  times_fit begin = time-fits _
  times_fit commit = time-fits _
  times_fit origin = tt
  times_fit relation = tt
  times_fit type = tt
  times_fit insert = tt
  times_fit update = tt
  times_fit delete = tt
  times_fit truncate = tt
  times_fit message = tt
  times_fit stream_start = tt
  times_fit stream_stop = tt
  times_fit stream_commit = time-fits _
  times_fit stream_abort = tt

  pub read_fits : (k : Kind) → Fits (message_of k (read_fields b (layout k) xs (Ok 1)).parts)
  read_fits k = (rw (kind_back k (read_fields b (layout k) xs (Ok 1)).parts, parts_back k b xs) (parts_fit k), times_fit k)
