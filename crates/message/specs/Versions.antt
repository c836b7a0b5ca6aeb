-- To be believed (demand 1). What each version allows (document 01, "Layouts" and refusals 1 and 3).
use Rattle.std.specs.Prelude.{Bool, false, not, ◌&&◌, ◌||◌, leb, Option, None, Some}
use Rattle.wire.specs.Fields.{in_range}
use Rattle.message.specs.declared.Version.{Version}
use Rattle.message.specs.Kinds.{Kind, first_version}

-- versions 1 and 2
abbrev pub is_known : Version → Bool
is_known v = in_range 1 2 v.number

-- a known version outside of blocks, and from version 2 on inside one
unfoldable pub version_allows : Version → Bool → Bool
version_allows v in_block = is_known v && (not in_block || leb 2 v.number)

unfoldable pub version_has : Version → Option Kind → Bool
version_has v None = false
version_has v (Some k) = is_known v && leb (first_version k) v.number
