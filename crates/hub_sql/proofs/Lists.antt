-- Proves that a list of a mailbox may begin at a mark.
use Rattle.std.proofs.Common.{◌≡◌, ℕ, IsTrue, List, Option, None, Result, Ok, Err, IfOk, OnOk, OnErr, map, take, sym, ap, subst, ◌∙◌}
use Rattle.sqlite.specs.Held.{state}
use Rattle.sqlite.specs.State.{State, HasCleanDisk}
use Rattle.sqlite_trees.specs.declared.store.Store.{Ghosts}
use Rattle.sql_rows.proofs.Transactions.{clean_before}
use Rattle.hub_parties.specs.Rows.{RegisterRows}
use Rattle.hub_tables.specs.State.{untaken_after}
use Rattle.hub_tables.specs.Tables.{Tables, view}
use Rattle.hub_store.specs.Heads.{head_of}
use Rattle.hub_store.specs.declared.fault.StoreFault.{StoreFault}
use Rattle.hub_store.specs.declared.mail.MailHead.{MailHead}
use Rattle.hub_schema.specs.Rows.{tables_in}
use Rattle.hub_schema.specs.State.{Holds, LooksUp}
use Rattle.hub_schema.proofs.Single.{hub_rises}
use Rattle.hub_sql.specs.Stored.{Stored, content, IsSoundStore, honest}
use Rattle.hub_sql.specs.Marks.{Marks, TakenUpToMarks, list_start, Notes}
use Rattle.hub_sql.proofs.Looking.{same_content}
use Rattle.hub_sql.proofs.Marking.{from_start, noted}

-- what a list shows
abbrev pub listed : List ℕ → ℕ → ℕ → Tables → List MailHead
listed supplier number limit t = take limit (map head_of (untaken_after (view supplier t) number))

-- two look-ups that give the same of these tables are the same look-up
look_alike : {X : Type 0} (one other : Tables → X) (old new : State) (result : Result X StoreFault)
    → (HasCleanDisk new → IsTrue old.is_open → one (tables_in old.now.trees) ≡ other (tables_in old.now.trees))
    → LooksUp one old new result → LooksUp other old new result
look_alike {X = X} one other old new result alike looks = record {
  answers = λ clean are. go result clean (looks.same clean) (looks.answers clean are);
  same = looks.same;
  stays = looks.stays;
  leaves = looks.leaves;
  mode = looks.mode;
  crash = looks.crash;
  unclean = looks.unclean;
}
  where
    go : (r : Result X StoreFault) → HasCleanDisk new → OnOk r (IsTrue old.is_open × IsTrue new.is_open × (new.now ≡ old.now))
        → IfOk r (λ x. x ≡ one (tables_in old.now.trees)) → IfOk r (λ x. x ≡ other (tables_in old.now.trees))
    go (Ok x) clean shown is = is ∙ alike clean shown.0
    go (Err fault) clean shown is = tt

module _ (old new : State) (marks : Marks) (supplier : List ℕ) (number limit : ℕ)
    (taken : HasCleanDisk old → IsTrue old.is_open → TakenUpToMarks (tables_in old.now.trees) marks) where
  pub list_looks : (result : Result (List MailHead) StoreFault)
      → LooksUp (listed supplier (list_start marks supplier number) limit) old new result
      → LooksUp (listed supplier number limit) old new result
  list_looks result looks =
      look_alike (listed supplier (list_start marks supplier number) limit) (listed supplier number limit) old new result
      (λ clean up. ap (λ entries. take limit (map head_of entries)) (from_start (tables_in old.now.trees) marks supplier number
      (taken (clean_before old new _ looks.crash clean) up))) looks

  pub list_notes : (heads : List MailHead) (after : Marks)
      → LooksUp (listed supplier (list_start marks supplier number) limit) old new (Ok heads)
      → Notes marks supplier number heads limit after
      → HasCleanDisk new → Holds old → TakenUpToMarks (tables_in old.now.trees) after
  list_notes heads after looks notes clean holds =
      let up = (looks.same clean).0 in
      noted (tables_in old.now.trees) marks after supplier number limit heads (hub_rises old (holds up)).mail
      (taken (clean_before old new _ looks.crash clean) up) (looks.answers clean holds) notes

-- the marks of a store are right for the rows that its connection shows
pub shown_taken : {S : Type 0} (g : Ghosts S) {kept : Option RegisterRows} {marks : Marks} (s : Stored S) → IsSoundStore g kept marks s
    → honest g s → IsTrue (state g s.held).is_open → TakenUpToMarks (tables_in (state g s.held).now.trees) marks
shown_taken g {marks = marks} s settled clean up = subst (λ t. TakenUpToMarks t marks) (sym (settled.rows clean up)) (settled.taken clean)

module _ {S : Type 0} (g : Ghosts S) {kept : Option RegisterRows} {marks : Marks} (old new : Stored S)
    (settled : IsSoundStore g kept marks old) where
  -- a look-up that changed the marks
  module _ (whole : old.fault ≡ None) (past : new.past ≡ old.past) {X : Type 0} (answer : Tables → X)
      (found : Result X StoreFault) (looks : LooksUp answer (state g old.held) (state g new.held) found) (after : Marks) where
    back : honest g new → honest g old
    back clean = clean_before (state g old.held) (state g new.held) _ looks.crash clean

    same : content g new ≡ content g old
    same = same_content g old new settled whole past

    pub list_taken :
        (honest g new → Holds (state g old.held) → OnOk found (TakenUpToMarks (tables_in (state g old.held).now.trees) after))
        → OnErr found (after ≡ marks) → honest g new → TakenUpToMarks (content g new) after
    list_taken taken stays clean = go found (looks.same clean) (taken clean (settled.hub (back clean))) stays
      where
        go : (r : Result X StoreFault) → OnOk r (IsTrue (state g old.held).is_open × IsTrue (state g new.held).is_open
            × ((state g new.held).now ≡ (state g old.held).now))
            → OnOk r (TakenUpToMarks (tables_in (state g old.held).now.trees) after) → OnErr r (after ≡ marks)
            → TakenUpToMarks (content g new) after
        go (Ok x) shown taken stays =
            subst (λ t. TakenUpToMarks t after) (settled.rows (back clean) shown.0 ∙ sym same) taken
        go (Err fault) shown taken stays =
            subst (TakenUpToMarks (content g new)) (sym stays)
            (subst (λ t. TakenUpToMarks t marks) (sym same) (settled.taken (back clean)))
