-- Proves which register a store returns, from what is found on the connection.
use Rattle.std.proofs.Common.{◌≡◌, inl, inr, false, IsTrue, Option, None, Some, Result, Ok, Err, IfOk, IfErr, refl, sym, ap, subst}
use Rattle.std.proofs.Common.{◌∙◌}
use Rattle.std.specs.Option.{IfSome}
use Rattle.sqlite.specs.Held.{state}
use Rattle.sqlite.specs.State.{State, HasCleanDisk}
use Rattle.sqlite_trees.specs.declared.store.Store.{Ghosts}
use Rattle.sql_rows.proofs.Transactions.{clean_before}
use Rattle.hub_parties.specs.Rows.{RegisterRows}
use Rattle.hub_founding.specs.Founding.{HoldsNone, IsHeldBy}
use Rattle.hub_tables.specs.Register.{HoldsRegister, register_of}
use Rattle.hub_tables.specs.Tables.{Tables}
use Rattle.hub_store.specs.Calls.{Fails, Looks, ReadsRegister, fault_of}
use Rattle.hub_store.specs.declared.fault.LastingFault.{LastingFault}
use Rattle.hub_store.specs.declared.fault.StoreFault.{StoreFault}
use Rattle.hub_store.specs.declared.fault.StoreFault.TheVariants.{Unclean}
use Rattle.hub_schema.specs.Rows.{tables_in}
use Rattle.hub_schema.specs.Schema.{hub_schema}
use Rattle.hub_schema.specs.State.{LooksFor, LooksIn, LooksUp}
use Rattle.hub_rows.proofs.Joining.{of_hub}
use Rattle.hub_sql.specs.Settling.{Settles}
use Rattle.hub_sql.specs.Stored.{Stored, content, left, HasRegister, IsSoundStore, honest}
use Rattle.hub_sql.specs.Marks.{Marks}
use Rattle.hub_sql.proofs.Looking.{failed, holds, still, same_content, looked, ok_of, on_ok_of, refused_fails}

-- if there is none, that is a fault
abbrev pub as_fault : Result (Option RegisterRows) StoreFault → Result RegisterRows StoreFault
as_fault (Ok (Some register)) = Ok register
as_fault (Ok None) = Err Unclean
as_fault (Err fault) = Err fault

held_one : (old new : State) (found : Result (Option RegisterRows) StoreFault) → LooksFor IsHeldBy HoldsNone old new found
    → LooksFor HasRegister HoldsNone old new (as_fault found)
held_one old new (Ok (Some register)) looks = record {
  answers = looks.answers;
  same = looks.same;
  stays = looks.stays;
  leaves = λ clean. record { done = (looks.leaves clean).done; fault = tt };
  mode = looks.mode;
  crash = looks.crash;
  unclean = λ clean are is. cc;
}
held_one old new (Ok None) looks = record {
  answers = λ clean are. tt;
  same = λ clean. tt;
  stays = looks.stays;
  leaves = λ clean. record { done = tt; fault = inl (looks.leaves clean).done };
  mode = looks.mode;
  crash = looks.crash;
  unclean = λ clean are is. ((looks.same clean).0, looks.answers clean are);
}
held_one old new (Err fault) looks = record {
  answers = λ clean are. tt;
  same = λ clean. tt;
  stays = looks.stays;
  leaves = λ clean. record { done = tt; fault = (looks.leaves clean).fault };
  mode = looks.mode;
  crash = looks.crash;
  unclean = λ clean are is. let same : fault ≡ Unclean = cc in looks.unclean clean are (ap Err same);
}

-- it is looked up in all tables, so also in a hub's
pub held : (old new : State) (found : Result (Option RegisterRows) StoreFault) → LooksIn IsHeldBy HoldsNone old new found
    → LooksFor HasRegister HoldsNone old new (as_fault found)
held old new found looks = held_one old new found (of_hub IsHeldBy HoldsNone old new found looks)

-- a look-up, if the rows hold one
pub as_look : (old new : State) (result : Result RegisterRows StoreFault)
    → (HasCleanDisk old → IsTrue old.is_open → HoldsRegister (tables_in old.now.trees))
    → LooksFor HasRegister HoldsNone old new result
    → LooksUp register_of old new result
as_look old new result holds looks = record {
  answers = λ clean are. theirs (tables_in old.now.trees) result (looks.answers clean are);
  same = looks.same;
  stays = looks.stays;
  leaves = looks.leaves;
  mode = looks.mode;
  crash = looks.crash;
  unclean = λ clean are is.
      let it = looks.unclean clean are is in
      absurd (it.1 (holds (clean_before old new _ looks.crash clean) it.0));
}
  where
    theirs : (t : Tables) (result : Result RegisterRows StoreFault) → IfOk result (HasRegister t)
        → IfOk result (λ register. register ≡ register_of t)
    theirs t (Ok register) is = is.1
    theirs t (Err fault) is = tt

module _ {S : Type 0} (g : Ghosts S) {kept : Option RegisterRows} {marks : Marks} (old new : Stored S)
    (settled : IsSoundStore g kept marks old)
    (whole : old.fault ≡ None) (past : new.past ≡ old.past) (found result : Result RegisterRows StoreFault)
    (looks : LooksFor HasRegister HoldsNone (state g old.held) (state g new.held) found)
    (makes : Settles found new.held.schema result new.fault) where
  back : honest g new → honest g old
  back clean = clean_before (state g old.held) (state g new.held) _ looks.crash clean

  pub read : ReadsRegister (content g) (honest g) (left g) (λ s. s.fault) false old new result
  read = record {
    held = λ clean. go result makes.value clean;
    content_stays = λ clean. same_content g old new settled whole past;
    left_stays = λ clean t h. elim h [
      | inl e ↦ inl (e ∙ same_content g old new settled whole past)
      | inr it ↦ elim (looks.crash.crash clean it.0 it.1) [
        | inl was ↦ inr (it.0, was, it.2)
        | inr never ↦ absurd never
      ]
    ];
    was_honest = back;
    again = none old.fault whole;
    fails = λ _. failed old.fault new.fault result whole makes.lasting makes.version;
  }
    where
      none : (fault : Option LastingFault) → fault ≡ None → IfSome fault (λ fault. result ≡ Err (fault_of fault))
      none None is = tt
      none (Some fault) is = cc

      go : (r : Result RegisterRows StoreFault) → IfOk r (λ x. found ≡ Ok x) → honest g new → IfOk r (HasRegister (content g old))
      go (Ok x) is clean =
          let shown = on_ok_of found x is (looks.same clean) in
          subst (λ t. HasRegister t x) (settled.rows (back clean) shown.0)
          (ok_of (HasRegister (tables_in (state g old.held).now.trees)) found x is
          (looks.answers clean (holds g old new settled whole past (back clean))))
      go (Err f) is clean = tt

  pub read_settles : IsSoundStore g kept marks new
  read_settles =
      still g old new settled whole past (looks.mode settled.idle)
      (λ clean none. schema result makes.value makes.usable clean none) back
      (λ clean o. looks.stays clean settled.idle (settled.schema whole (back clean)) o)
    where
      schema : (r : Result RegisterRows StoreFault) → IfOk r (λ x. found ≡ Ok x)
          → IfErr r (λ _. new.fault ≡ None → new.held.schema ≡ hub_schema)
          → honest g new → new.fault ≡ None → new.held.schema ≡ hub_schema
      schema (Ok x) is usable clean none =
          let shown = on_ok_of found x is (looks.same clean) in
          ap (λ d. d.schema) shown.2 ∙ settled.schema whole (back clean)
      schema (Err f) is usable clean none = usable none

  pub read_looked : (honest g old → HoldsRegister (content g old))
      → Looks (content g) (honest g) (left g) (λ s. s.fault) old new (register_of (content g old)) result
  read_looked holds_one =
      looked g old new settled whole past register_of found result
      (as_look (state g old.held) (state g new.held) found
      (λ clean up. subst HoldsRegister (sym (settled.rows clean up)) (holds_one clean)) looks)
      makes

-- a store with a lasting fault returns it, and stays as it is
module _ {S : Type 0} (g : Ghosts S) (s : Stored S) (result : Result RegisterRows StoreFault) (good : LastingFault)
    (has : s.fault ≡ Some good)
    (is : result ≡ Err (fault_of good)) where
  pub refused_read : ReadsRegister (content g) (honest g) (left g) (λ s. s.fault) false s s result
  refused_read = record {
    held = λ clean. rw is tt;
    content_stays = λ clean. refl;
    left_stays = λ clean t h. h;
    was_honest = λ clean. clean;
    again = rw has is;
    fails = λ _. refused_fails g s result good has is;
  }

-- a store without a lasting fault returns the register that it keeps
module _ {S : Type 0} (g : Ghosts S) {marks : Marks} (s : Stored S) (register : RegisterRows)
    (settled : IsSoundStore g (Some register) marks s)
    (whole : s.fault ≡ None) where
  abbrev found : Result RegisterRows StoreFault
  found = Ok register

  pub kept_fails : Fails false s.fault s.fault found
  kept_fails = failed s.fault s.fault found whole whole (λ is. cc)

  pub kept_read : ReadsRegister (content g) (honest g) (left g) (λ s. s.fault) false s s found
  kept_read = record {
    held = settled.register;
    content_stays = λ clean. refl;
    left_stays = λ clean t h. h;
    was_honest = λ clean. clean;
    again = kept_fails.again;
    fails = λ _. kept_fails;
  }

  pub kept_looked : Looks (content g) (honest g) (left g) (λ s. s.fault) s s (register_of (content g s)) found
  kept_looked = record {
    answers = λ clean. (settled.register clean).1;
    content_stays = λ clean. refl;
    left_stays = λ clean t h. h;
    was_honest = λ clean. clean;
    unclean = λ clean none is. cc;
  }

  pub kept_settles : IsSoundStore g None marks s
  kept_settles = record {
    idle = settled.idle;
    schema = settled.schema;
    hub = settled.hub;
    rows = settled.rows;
    register = λ clean. tt;
    taken = settled.taken;
    few = settled.few;
  }
