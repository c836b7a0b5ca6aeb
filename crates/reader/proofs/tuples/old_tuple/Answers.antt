use Rattle.std.proofs.Common.{◌≡◌, refl, sym, ◌∙◌, rules}
use Rattle.std.specs.Prelude.{Err}
use Rattle.wire.proofs.Given.{turned, turned_not}
use Rattle.message.specs.declared.OldTuple.TheVariants.{Key, Full}
use Rattle.reader.proofs.OldTuples.{old_none, old_key, old_full}
use Rattle.reader.proofs.tuples.old_tuple.Goals as goal

pub returns-in-Err : goal.returns-in-Err
returns-in-Err c =
    let was = c.in_ok-start.was in
    let k = rw was at (sym c.letter.ensures.value ∙ c.in-Err.is) in
    rw (was, old_none _ _ k) (record { value = refl; stands_at = rw c.letter.ensures.stands_at })

pub returns-in_err-tuple-in-Ok-eq75 : goal.returns-in_err-tuple-in-Ok-eq75
returns-in_err-tuple-in-Ok-eq75 c =
    let was = c.in_ok-start.was in
    let why = c.in_err-tuple-in-Ok-eq75.field-0.0 in
    let refused : c.from_residual-in_err-tuple-in-Ok-eq75.result ≡ Err why = search rules in
    let k = rw was at (sym c.letter.ensures.value ∙ c.in-Ok-eq75.is) in
    let e = rw (c.letter.ensures.stands_at, was) at c.tuple.ensures in
    rw (was, old_key _ _ k (search rules)) (record { value = refused ∙ sym (turned_not Key _ _ (sym e.value ∙ c.in_err-tuple-in-Ok-eq75.was)); stands_at = e.stands_at })

pub returns-in_ok-tuple-in-Ok-eq75 : goal.returns-in_ok-tuple-in-Ok-eq75
returns-in_ok-tuple-in-Ok-eq75 c =
    let was = c.in_ok-start.was in
    let k = rw was at (sym c.letter.ensures.value ∙ c.in-Ok-eq75.is) in
    let e = rw (c.letter.ensures.stands_at, was) at c.tuple.ensures in
    rw (was, old_key _ _ k (search rules)) (record { value = sym (turned Key _ _ (sym e.value ∙ c.in_ok-tuple-in-Ok-eq75.was)); stands_at = e.stands_at })

pub returns-in_err-tuple-in-Ok : goal.returns-in_err-tuple-in-Ok
returns-in_err-tuple-in-Ok c =
    let was = c.in_ok-start.was in
    let why = c.in_err-tuple-in-Ok.field-0.0 in
    let refused : c.from_residual-in_err-tuple-in-Ok.result ≡ Err why = search rules in
    let k = rw was at (sym c.letter.ensures.value ∙ c.in-Ok.is) in
    let e = rw (c.letter.ensures.stands_at, was) at c.tuple-in-Ok.ensures in
    rw (was, old_full _ _ k (search rules)) (record { value = refused ∙ sym (turned_not Full _ _ (sym e.value ∙ c.in_err-tuple-in-Ok.was)); stands_at = e.stands_at })

pub returns-in_ok-tuple-in-Ok : goal.returns-in_ok-tuple-in-Ok
returns-in_ok-tuple-in-Ok c =
    let was = c.in_ok-start.was in
    let k = rw was at (sym c.letter.ensures.value ∙ c.in-Ok.is) in
    let e = rw (c.letter.ensures.stands_at, was) at c.tuple-in-Ok.ensures in
    rw (was, old_full _ _ k (search rules)) (record { value = sym (turned Full _ _ (sym e.value ∙ c.in_ok-tuple-in-Ok.was)); stands_at = e.stands_at })
