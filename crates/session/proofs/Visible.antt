-- What is seen of what the table finds. Assumes nothing.
use mathlib.Core.Path.{◌≡◌, refl}
use Rattle.std.specs.Prelude.{Option, Some, None, is_some}
use Rattle.catalog.specs.declared.announcements.Announcement.{Announcement}
use Rattle.session.specs.History.{is_announced}
use Rattle.session.specs.State.{announced_by}

pub found_announced : (a : Option Announcement) → is_some a ≡ is_announced (announced_by a)
found_announced None = refl
found_announced (Some a) = refl
