-- Proves what holds of a new store over a connection.
use Rattle.std.proofs.Common.{◌≡◌, ℕ, Bool, true, false, List, [], ◌∷◌, Option, None, sym, ap, subst, arith}
use Rattle.std.specs.BTreeMap.{btree_map_len}
use Rattle.std.specs.List.{last_or}
use Rattle.std.specs.Option.{IfSome}
use Rattle.sqlite.specs.Held.{Held, state}
use Rattle.sqlite.specs.State.{HasCleanDisk}
use Rattle.sqlite_trees.specs.declared.store.Store.{Ghosts}
use Rattle.hub_parties.specs.Rows.{RegisterRows}
use Rattle.hub_schema.specs.Rows.{tables_in}
use Rattle.hub_schema.specs.State.{IsHub}
use Rattle.hub_sql.specs.Stored.{Stored, rows_in, content, HasRegister, IsSoundStore}
use Rattle.hub_sql.specs.Marks.{Marks, mark_of}
use Rattle.hub_sql.proofs.Marking.{taken_to_no_marks}

module _ {S : Type 0} (g : Ghosts S) (held : Held S) (register : Option RegisterRows) (marks : Marks) (past : List (Held S × Bool))
    (begun : past ≡ (held, true) ∷ []) where
  abbrev fresh : Stored S
  fresh = record { held = held; fault = None; past = past }

  shows : content g fresh ≡ tables_in (state g held).now.trees
  shows = ap (λ p. rows_in g (last_or None p)) begun

  pub fresh_settles : held.in_transaction ≡ false → (HasCleanDisk (state g held) → IsHub (state g held))
      → (HasCleanDisk (state g held) → IfSome register (HasRegister (tables_in (state g held).now.trees)))
      → ((supplier : List ℕ) → mark_of marks supplier ≡ 0) → btree_map_len marks ≡ 0 → IsSoundStore g register marks fresh
  fresh_settles idle hub theirs none empty = record {
    idle = idle;
    schema = λ whole clean. (hub clean).schema;
    hub = λ clean up. hub clean;
    rows = λ clean up. sym shows;
    register = λ clean. subst (λ t. IfSome register (HasRegister t)) (sym shows) (theirs clean);
    taken = λ clean. taken_to_no_marks (content g fresh) marks none;
    few = omega (arith, empty);
  }
