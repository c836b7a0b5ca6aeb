use Rattle.std.proofs.Common.{◌≡◌, ap, sym, ◌∙◌, true, get_or}
use Rattle.std.specs.Prelude.{Option}
use Rattle.message.specs.declared.kinds.Kind.{Kind}
use Rattle.message.specs.Kinds.{kind_of}
use Rattle.message.specs.Versions.{version_allows, version_has}
use Rattle.message.specs.Messages.{read_named}
use Rattle.reader.proofs.Top.{bad_version, too_long, nothing, no_kind, by_kind}
use Rattle.reader.proofs.read_message.Goals as goal
use Rattle.reader.proofs.read_message.Goals.{After-has, Else-not-allows}

pub returns-then-not-allows : goal.returns-then-not-allows
returns-then-not-allows c = c.refused.ensures ∙ bad_version _ _ _ (sym c.allows.ensures ∙ c.if-not-allows.true)

-- past the first test
allowed : (c : Else-not-allows) → version_allows c.args.version c.args.in_block ≡ true
allowed c = sym c.allows.ensures ∙ c.if-not-allows.false

pub returns-then-bytes-gt-LARGEST : goal.returns-then-bytes-gt-LARGEST
returns-then-bytes-gt-LARGEST c = c.refused-then-bytes-gt-LARGEST.ensures ∙ too_long _ _ _ (allowed (goal.at.returns-then-bytes-gt-LARGEST c).Else-not-allows) c.if-bytes-gt-LARGEST.true

pub returns-then-bytes-eq0 : goal.returns-then-bytes-eq0
returns-then-bytes-eq0 c =
    c.refused-then-bytes-eq0.ensures ∙ nothing _ _ _ (allowed (goal.at.returns-then-bytes-eq0 c).Else-not-allows) c.if-bytes-gt-LARGEST.false c.if-bytes-eq0.true

known :
    (c : After-has)
    → c.has.result ≡ version_has c.args.version (kind_of (get_or c.args.bytes.now 0 0))
known c = c.has.ensures ∙ ap (version_has _) c.kind_of-kind.ensures

pub returns-then-not-has : goal.returns-then-not-has
returns-then-not-has c =
    c.refused-then-not-has.ensures ∙ no_kind _ _ _ (allowed (goal.at.returns-then-not-has c).Else-not-allows) c.if-bytes-gt-LARGEST.false c.if-bytes-eq0.false (sym (known (goal.at.returns-then-not-has c).After-has) ∙ c.if-not-has.true)

pub returns-in-Some : goal.returns-in-Some
returns-in-Some c =
    c.read_kind.ensures
    ∙ ap (λ (k : Option Kind). read_named k c.args.in_block c.args.bytes.now) (sym c.in-Some.is ∙ c.kind_of-kind.ensures)
    ∙ by_kind _ _ _ (allowed (goal.at.returns-in-Some c).Else-not-allows) c.if-bytes-gt-LARGEST.false c.if-bytes-eq0.false (sym (known (goal.at.returns-in-Some c).After-has) ∙ c.if-not-has.false)

pub returns-in-None : goal.returns-in-None
returns-in-None c =
    c.refused-in-None.ensures
    ∙ ap (λ (k : Option Kind). read_named k c.args.in_block c.args.bytes.now) (sym c.in-None.is ∙ c.kind_of-kind.ensures)
    ∙ by_kind _ _ _ (allowed (goal.at.returns-in-None c).Else-not-allows) c.if-bytes-gt-LARGEST.false c.if-bytes-eq0.false (sym (known (goal.at.returns-in-None c).After-has) ∙ c.if-not-has.false)
