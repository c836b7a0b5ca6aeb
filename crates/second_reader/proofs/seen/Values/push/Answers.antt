use Rattle.std.proofs.Common.{◌+◌, ◌∷◌, [], take, arith, sym, ◌∙◌}
use Rattle.std.proofs.lemmas.List.{drop-set-lt, drop-drop, take_at, length-take-le}
use Rattle.second_reader.proofs.seen.Values.push.Goals as goal

pub returns-then-self-lt-ROOM-clause-unused : goal.returns-then-self-lt-ROOM-clause-unused
returns-then-self-lt-ROOM-clause-unused c =
    let v = c.args.self.now in
    drop-set-lt (v.count + 1) v.numbers v.count _ (omega arith) ∙ sym (drop-drop 1 v.count v.numbers)

pub returns-else-self-lt-ROOM-clause-listed : goal.returns-else-self-lt-ROOM-clause-listed
returns-else-self-lt-ROOM-clause-listed c =
    let v = c.args.self.now in
    sym (take_at (take v.count v.numbers) (c.args.value ∷ []) 16 (length-take-le v.count v.numbers (omega arith) ∙ omega arith))
