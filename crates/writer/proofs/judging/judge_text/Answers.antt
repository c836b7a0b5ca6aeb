use Rattle.writer.proofs.judging.judge_text.Goals as goal

pub returns-then-contains : goal.returns-then-contains
returns-then-contains c =
    let inside = c.if-not-lies.false in
    rw (← c.lies.ensures, inside, ← c.cut_of.ensures, ← c.contains.ensures, c.if-contains.true) c.refused-then-contains.ensures

pub returns : goal.returns
returns c =
    rw (← c.lies.ensures, c.if-not-lies.false, ← c.cut_of.ensures, ← c.contains.ensures, c.if-contains.false)
