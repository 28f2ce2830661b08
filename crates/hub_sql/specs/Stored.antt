-- Defines a store over a connection, as its contracts see it.
use Rattle.std.specs.Prelude.{◌≡◌, ◌⊎◌, ◌≤◌, Bool, false, IsTrue, List, Option, None, Some, refl}
use Rattle.std.specs.Option.{IfSome}
use Rattle.std.specs.Coded.{Coded, code_by, coded×, coded_list, coded_option, coded_bool}
use Rattle.std.specs.BTreeMap.{btree_map_len}
use Rattle.std.specs.List.{last_or}
use Rattle.sqlite.specs.Held.{Held, held_code, state}
use Rattle.sqlite.specs.State.{State, HasCleanDisk}
use Rattle.sqlite_trees.specs.Tree.{Trees}
use Rattle.sqlite_trees.specs.declared.store.Store.{Ghosts}
use Rattle.hub_parties.specs.Rows.{RegisterRows}
use Rattle.hub_tables.specs.Register.{HoldsRegister, register_of}
use Rattle.hub_tables.specs.Tables.{Tables, empty}
use Rattle.hub_store.specs.declared.fault.LastingFault.{LastingFault}
use Rattle.hub_store.specs.contracts.fault.LastingFault as lasting
use Rattle.hub_schema.specs.Rows.{tables_in}
use Rattle.hub_schema.specs.Schema.{hub_schema}
use Rattle.hub_schema.specs.State.{IsHub}
use Rattle.hub_sql.specs.Marks.{Marks, TakenUpToMarks, most_marks}

pub record Stored (S : Type 0) : Type 0 where
  pub held : Held S
  -- the fault that each call returns from now on
  pub fault : Option LastingFault
  -- the connection after opening and after each commit
  pub past : List (Held S × Bool)

abbrev pub stored_code : {S : Type 0} → Coded S → Coded (Stored S)
stored_code {S} code =
    code_by (Held S × (Option LastingFault × List (Held S × Bool)))
    (coded× (held_code code)
    (coded× (coded_option lasting.the_row.coded) (coded_list (coded× (held_code code) coded_bool))))
    (λ s. (s.held, (s.fault, s.past))) (λ p. record { held = p.0; fault = p.1.0; past = p.1.1 }) (λ _. refl)

-- these rows hold this register
abbrev pub HasRegister : Tables → RegisterRows → Type 0
HasRegister t register = HoldsRegister t × (register ≡ register_of t)

module _ {S : Type 0} (g : Ghosts S) where
  abbrev pub rows_in : Option (Held S × Bool) → Tables
  rows_in None = empty
  rows_in (Some it) = tables_in (state g it.0).now.trees

  -- the rows after the last commit, even if the connection has been shut since
  abbrev pub content : Stored S → Tables
  content s = rows_in (last_or None s.past)

  -- the disk has returned what was written, so far
  abbrev pub honest : Stored S → Type 0
  honest s = HasCleanDisk (state g s.held)

  -- what a crash now may leave
  abbrev pub left : Stored S → Tables → Type 0
  left s t = (t ≡ content s) ⊎ ((trees : Trees) × (state g s.held).may_leave trees × (t ≡ tables_in trees))

  -- A new store over a connection that was in this state: it is not broken, it has these rows, a crash leaves no
  -- others, and its disk has returned what was written only if the connection's had.
  pub record HoldsRows (was : State) (rows : Tables) (s : Stored S) : Type 0 where
    pub whole : s.fault ≡ None
    pub rows_are : honest s → content s ≡ rows
    pub crash : honest s → (t : Tables) → left s t → t ≡ content s
    pub clean : honest s → HasCleanDisk was

  -- What always holds of a store: if it is open, even after a lasting fault, it has the hub's tables, whose rows are
  -- the content; while it has no lasting fault, its schema is the hub's; a register that it keeps is that of the
  -- content; and the marks that it keeps of suppliers are right and not too many.
  pub record IsSoundStore (kept : Option RegisterRows) (marks : Marks) (s : Stored S) : Type 0 where
    pub idle : s.held.in_transaction ≡ false
    pub schema : s.fault ≡ None → HasCleanDisk (state g s.held) → s.held.schema ≡ hub_schema
    pub hub : HasCleanDisk (state g s.held) → IsTrue (state g s.held).is_open → IsHub (state g s.held)
    pub rows :
        HasCleanDisk (state g s.held) → IsTrue (state g s.held).is_open →
        tables_in (state g s.held).now.trees ≡ content s
    pub register : HasCleanDisk (state g s.held) → IfSome kept (HasRegister (content s))
    pub taken : HasCleanDisk (state g s.held) → TakenUpToMarks (content s) marks
    pub few : btree_map_len marks ≤ most_marks
