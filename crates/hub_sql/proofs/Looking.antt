-- Proves what a look-up of a store returns, from what it returns on the connection.
use Rattle.std.proofs.Common.{◌≡◌, ◌≢◌, inl, inr, false, IsTrue, Option, None, Some, Result, Ok, Err, IfOk, IfErr, OnOk}
use Rattle.std.proofs.Common.{refl, sym, ap, subst, ◌∙◌}
use Rattle.std.specs.List.{last_or}
use Rattle.std.specs.Option.{IfSome}
use Rattle.sqlite.specs.Held.{state}
use Rattle.sqlite.specs.Schema.{Schema}
use Rattle.sqlite_trees.specs.declared.store.Store.{Ghosts}
use Rattle.sql_rows.proofs.Transactions.{clean_before}
use Rattle.hub_parties.specs.Rows.{RegisterRows}
use Rattle.hub_tables.specs.Tables.{Tables}
use Rattle.hub_store.specs.Calls.{Looks, Fails, broken_after, broken_by, fault_of}
use Rattle.hub_store.specs.Clean.{are_clean}
use Rattle.hub_store.specs.declared.fault.LastingFault.{LastingFault}
use Rattle.hub_store.specs.declared.fault.LastingFault.TheVariants as lasting
use Rattle.hub_store.specs.declared.fault.StoreFault.{StoreFault}
use Rattle.hub_store.specs.declared.fault.StoreFault.TheVariants.{Version}
use Rattle.hub_schema.specs.Rows.{tables_in}
use Rattle.hub_schema.specs.Schema.{hub_schema}
use Rattle.hub_schema.specs.State.{Holds, LooksUp}
use Rattle.hub_sql.specs.Settling.{Settles}
use Rattle.hub_sql.specs.Stored.{Stored, rows_in, content, left, HasRegister, IsSoundStore, honest}
use Rattle.hub_sql.specs.Marks.{Marks, TakenUpToMarks}
use Rattle.hub_schema.proofs.Same.{same_hub}

pub ok_of : {X E : Type 0} (P : X → Type 0) (found : Result X E) (x : X) → found ≡ Ok x → IfOk found P → P x
ok_of P (Ok y) x e h = let same : y ≡ x = cc in subst P same h
ok_of P (Err f) x e h = cc

pub on_ok_of : {X E P : Type 0} (found : Result X E) (x : X) → found ≡ Ok x → OnOk found P → P
on_ok_of (Ok y) x e h = h
on_ok_of (Err f) x e h = cc

-- what is true of a value that was found is true of it when it is passed on
pub handed_on : {X : Type 0} (P : X → Type 0) (found result : Result X StoreFault) → IfOk found P → IfOk result (λ x. found ≡ Ok x)
    → IfOk result P
handed_on P found (Ok x) holds is = ok_of P found x is holds
handed_on P found (Err f) holds is = tt

-- how a call fails that a store made while it had no fault
pub failed : {X : Type 0} (before after : Option LastingFault) (result : Result X StoreFault) → before ≡ None
    → after ≡ broken_after None result
    → result ≢ Err Version → Fails false before after result
failed None after result none lasting known = record {
  again = tt;
  after = lasting;
  not_version = is_other result known;
  only_memory = λ plain. cc;
}
  where
    is_other : {X : Type 0} (r : Result X StoreFault) → r ≢ Err Version → IfErr r (λ fault. fault ≢ Version)
    is_other (Ok x) h = tt
    is_other (Err f) h = λ e. h (ap Err e)
failed (Some f) after result none lasting known = cc

module _ {S : Type 0} (g : Ghosts S) {kept : Option RegisterRows} {marks : Marks} (old new : Stored S)
    (settled : IsSoundStore g kept marks old)
    (whole : old.fault ≡ None)
    (past : new.past ≡ old.past) where
  pub same_content : content g new ≡ content g old
  same_content = ap (λ p. rows_in g (last_or None p)) past

  pub holds : honest g old → Holds (state g old.held)
  holds clean o = settled.hub clean o

  -- rows and schema are as they were, if the connection still shows them
  pub still : new.held.in_transaction ≡ false → (honest g new → new.fault ≡ None → new.held.schema ≡ hub_schema)
      → (honest g new → honest g old)
      → (honest g new → IsTrue (state g new.held).is_open → IsTrue (state g old.held).is_open ×
      ((state g new.held).now ≡ (state g old.held).now))
      → IsSoundStore g kept marks new
  still idle schema back shows = record {
    idle = idle;
    schema = λ none clean. schema clean none;
    hub = λ clean o. let was = shows clean o in same_hub (state g old.held) (state g new.held) was.1
        (settled.hub (back clean) was.0);
    rows = λ clean o. let was = shows clean o in ap (λ d. tables_in d.trees) was.1 ∙ settled.rows
        (back clean) was.0 ∙ sym same_content;
    register = λ clean. subst (λ t. IfSome kept (HasRegister t)) (sym same_content) (settled.register (back clean));
    taken = λ clean. subst (λ t. TakenUpToMarks t marks) (sym same_content) (settled.taken (back clean));
    few = settled.few;
  }

  module _ {X : Type 0} (answer : Tables → X) (found result : Result X StoreFault)
      (looks : LooksUp answer (state g old.held) (state g new.held) found)
      (makes : Settles found new.held.schema result new.fault) where
    back : honest g new → honest g old
    back clean = clean_before (state g old.held) (state g new.held) _ looks.crash clean

    pub looked : Looks (content g) (honest g) (left g) (λ s. s.fault) old new (answer (content g old)) result
    looked = record {
      answers = λ clean. go result makes.value clean;
      content_stays = λ clean. same_content;
      left_stays = λ clean t h. elim h [
        | inl e ↦ inl (e ∙ same_content)
        | inr it ↦ elim (looks.crash.crash clean it.0 it.1) [
          | inl was ↦ inr (it.0, was, it.2)
          | inr never ↦ absurd never
        ]
      ];
      was_honest = back;
      unclean = λ clean none is.
          let it = looks.unclean clean (holds (back clean)) (makes.unclean is) in
          ap are_clean (sym (settled.rows (back clean) it.0)) ∙ it.1;
    }
      where
        go : (r : Result X StoreFault) → IfOk r (λ x. found ≡ Ok x) → honest g new → IfOk r
            (λ x. x ≡ answer (content g old))
        go (Ok x) is clean =
            let shown = on_ok_of found x is (looks.same clean) in
            ok_of (λ y. y ≡ answer (tables_in (state g old.held).now.trees)) found x is
            (looks.answers clean (holds (back clean)))
            ∙ ap answer (settled.rows (back clean) shown.0)
        go (Err f) is clean = tt

    pub look_fails : Fails false old.fault new.fault result
    look_fails = failed old.fault new.fault result whole makes.lasting makes.version

    pub look_settles : IsSoundStore g kept marks new
    look_settles =
        still (looks.mode settled.idle) (λ clean none. schema result makes.value makes.usable clean none) back
        (λ clean o. looks.stays clean settled.idle (settled.schema whole (back clean)) o)
      where
        schema : (r : Result X StoreFault) → IfOk r (λ x. found ≡ Ok x) → IfErr r
            (λ _. new.fault ≡ None → new.held.schema ≡ hub_schema)
            → honest g new → new.fault ≡ None → new.held.schema ≡ hub_schema
        schema (Ok x) is usable clean none =
            let shown = on_ok_of found x is (looks.same clean) in
            ap (λ d. d.schema) shown.2 ∙ settled.schema whole (back clean)
        schema (Err f) is usable clean none = usable none

-- the same for the store as its view shows it; what the call on the connection returns comes last, so that a search
-- finds it
pub looked_as_seen : {S X : Type 0} (g : Ghosts S) {kept : Option RegisterRows} {marks : Marks} {old new seen : Stored S}
    {schema : Schema} {found result : Result X StoreFault}
    → old ≡ seen → IsSoundStore g kept marks old → old.fault ≡ None → new.past ≡ old.past → (answer : Tables → X)
    → Settles found schema result new.fault → schema ≡ new.held.schema
    → LooksUp answer (state g old.held) (state g new.held) found
    → Looks (content g) (honest g) (left g) (λ s. s.fault) seen new (answer (content g seen)) result
looked_as_seen g {kept} {marks} {old} {new} {seen} {schema} {found} {result} is settled whole past answer makes shown looks =
    subst (λ s. Looks (content g) (honest g) (left g) (λ s. s.fault) s new (answer (content g s)) result) is
    (looked g old new settled whole past answer found result looks (subst (λ s. Settles found s result new.fault) shown makes))

-- a store with a lasting fault returns it, and stays as it is
module _ {S : Type 0} (g : Ghosts S) (s : Stored S) {X : Type 0} (result : Result X StoreFault) (good : LastingFault)
    (has : s.fault ≡ Some good)
    (is : result ≡ Err (fault_of good)) where
  pub refused : (answer : X) → Looks (content g) (honest g) (left g) (λ s. s.fault) s s answer result
  refused answer = record {
    answers = λ clean. rw is tt;
    content_stays = λ clean. refl;
    left_stays = λ clean t h. h;
    was_honest = λ clean. clean;
    unclean = λ clean none same. absurd (let both = sym has ∙ none in cc);
  }

  pub refused_fails : Fails false s.fault s.fault result
  refused_fails = record {
    again = rw has is;
    after = rw (has, is) (after good);
    not_version = rw is (other good);
    only_memory = λ plain. cc;
  }
    where
      after : (f : LastingFault) → Some f ≡ broken_by (Some f) (fault_of f)
      after lasting.Disk = refl
      after lasting.Unclean = refl

      other : (f : LastingFault) → fault_of f ≢ Version
      other lasting.Disk = λ e. cc
      other lasting.Unclean = λ e. cc
