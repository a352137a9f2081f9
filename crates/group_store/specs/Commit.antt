-- How writes are taken back where memory runs out amid a commit. No standard speaks of it: it is this project's own.
use Rattle.std.specs.Prelude.{List, [], ◌∷◌, Option, Some, None}
use Rattle.std.specs.Map.{set_value, remove_entry}
use Rattle.std.specs.BTreeMap.{is_at}
use Rattle.group_store.specs.declared.rows.Place.{Place}
use Rattle.group_store.specs.declared.rows.Version.{Version}
use Rattle.group_store.specs.declared.commit.Replaced.{Replaced}
use Rattle.group_store.specs.Rows.{Rows, place_order}

abbrev pub with_version : Place → Option Version → Rows → Rows
with_version place None rows = remove_entry (is_at (place_order place)) rows
with_version place (Some version) rows = set_value (is_at (place_order place)) rows version

-- the rows as they were before these were replaced, one after another
abbrev pub taken_back : List Replaced → Rows → Rows
taken_back [] rows = rows
taken_back (replaced ∷ others) rows = with_version replaced.place replaced.version (taken_back others rows)
