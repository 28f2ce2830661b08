-- The rows that a connection shows.
use Rattle.std.specs.Prelude.{◌≡◌, false, IsTrue}
use Rattle.sqlite.specs.Held.{Held, state}
use Rattle.sqlite.specs.State.{HasCleanDisk}
use Rattle.sqlite_trees.specs.declared.store.Store.{Ghosts}
use Rattle.hub_schema.specs.Rows.{tables_in}
use Rattle.hub_schema.specs.State.{IsHub}
use Rattle.hub_tables.specs.Tables.{Tables}

module _ {S : Type 0} (g : Ghosts S) where
  abbrev pub content : Held S → Tables
  content held = tables_in (state g held).now.trees

  -- the disk has returned what was written, so far
  abbrev pub honest : Held S → Type 0
  honest held = HasCleanDisk (state g held)

  -- no transaction is open, and a connection that is open shows what was committed: the tables of a hub
  pub record IsQuiet (held : Held S) : Type 0 where
    pub idle : held.in_transaction ≡ false
    pub hub : honest held → IsTrue (state g held).is_open → IsHub (state g held)
    pub shown : honest held → IsTrue (state g held).is_open → (state g held).now ≡ (state g held).committed
