-- Proves that a register with a new supplier is the one that the tables hold after the join.
use Rattle.std.proofs.Common.{◌≡◌, inl, inr, ℕ, Bool, true, false, cond, List, [], ◌∷◌, map, Option, Some, None, Result, Ok, Err}
use Rattle.std.proofs.Common.{◌≢◌, ◌&&◌, refl, sym, ap, subst, ◌∙◌}
use Rattle.std.proofs.lemmas.Bool.{and_parts}
use Rattle.std.specs.Option.{IfSome}
use Rattle.std.specs.List.{AllByRecursion, list_any}
use Rattle.std.specs.Ordering.{is_gt, is_eq, match_ordering, ordering_reverse}
use Rattle.std.specs.declared.cmp.Ordering.TheVariants.{Less, Equal, Greater}
use Rattle.std.proofs.lemmas.Bool.{or_parts}
use Rattle.std.proofs.lemmas.Cmp.{nat_list_cmp_total}
use Rattle.std.proofs.lemmas.Map.Text.{is_eq-slice_cmp}
use Rattle.hub_parties.specs.KeyOrder as order
use Rattle.hub_parties.specs.KeyOrder.{bytes_cmp}
use Rattle.hub_parties.specs.Rows.{RegisterRows, IsRegister, parties_of, row_of, supplier_row}
use Rattle.hub_parties.specs.declared.row.SupplierRow.{SupplierRow}
use Rattle.hub_register.specs.InOrder.{put}
use Rattle.hub_register.specs.Joined.{joined_by, without, left_by}
use Rattle.hub_tables.specs.Change.{apply_all}
use Rattle.hub_tables.specs.Register.{register_of, register_by, hub_in, supplier_cmp, prefix_changes, founded}
use Rattle.hub_tables.specs.Rows.{same}
use Rattle.hub_tables.specs.Tables.{Tables}
use Rattle.hub_tables.specs.declared.change.Change.{Change}
use Rattle.hub_tables.proofs.Back.{fit_uncleared}
use Rattle.hub_tables.proofs.Founding.{register_back}
use Rattle.hub_tables.proofs.Enrolling.{find_past}
use Rattle.hub_tables.proofs.Lists.{same_if, same_is}
use Rattle.hub_texts.specs.HubRules.JoinRules.{is_join, judge_join, joins, is_accepted}
use Rattle.hub_texts.specs.HubRules.Laws.{SoundHub, JoinedBy}
use Rattle.hub_texts.specs.HubRules.declared.verdict.Verdict.{Verdict}
use Rattle.hub_texts.specs.HubRules.declared.verdict.Verdict.TheVariants.{Accept, Refuse}
use Rattle.hub_store.specs.declared.fault.LastingFault.{LastingFault}
use Rattle.hub_store.specs.declared.fault.StoreFault.{StoreFault}
use Rattle.hub_store.specs.declared.store.Store.{Ghosts}
use Rattle.hub_texts.proofs.HubRules.Joining as joining
use Rattle.hub_texts.proofs.HubRules.Joining.{founded_sound}
use Rattle.hub_tables.specs.Sets.{Fit, clears}
use Rattle.hub_clean.specs.HubLaw.Mark.{Whole}
use Rattle.hub_clean.specs.HubLaw.Replies.{act_reply, denied}
use Rattle.hub_clean.specs.HubLaw.Requests.{joined, replied_by}
use Rattle.hub_clean.specs.HubLaw.Told.{Accepted, act, told}
use Rattle.hub_texts.specs.HubRequests.declared.reply.Reply.{Reply}
use Rattle.hub_clean.proofs.HubLaw.Agreeing.{sound_rises}
use Rattle.hub_acts.specs.Acts.{Carried, FailsWith, as_told, no_answer}
use Rattle.hub_acts.specs.Joins.{KeepsRows, MovesBy}
use Rattle.hub_clean.proofs.Joined.{rules, changes_are}

-- Rows none of which has this GLN.
module _ (row : SupplierRow) where
  abbrev HasNewGln : List SupplierRow → Type 0
  HasNewGln rows = list_any (same row.gln) (map (λ (s : SupplierRow). s.gln) rows) ≡ false

  module _ (s : SupplierRow) (rows : List SupplierRow) (other : same row.gln s.gln ≡ false) where
    place : (Q : List SupplierRow → Type 0)
        → (is_gt (bytes_cmp s.gln row.gln) ≡ true → Q (row ∷ s ∷ rows))
        → (is_gt (bytes_cmp s.gln row.gln) ≡ false → Q (s ∷ put row rows))
        → Q (put row (s ∷ rows))
    place Q before behind =
        elim (bytes_cmp row.gln s.gln) as (λ o. bytes_cmp row.gln s.gln ≡ o
        → Q (match_ordering o (row ∷ s ∷ rows) (row ∷ rows) (s ∷ put row rows))) [
          | Less ↦ λ e. before (turned ∙ ap (λ o. is_gt (ordering_reverse o)) e)
          | Equal ↦ λ e. let no : true ≡ false = sym (ap is_eq e) ∙ is_eq-slice_cmp row.gln s.gln ∙ other in absurd (cc)
          | Greater ↦ λ e. behind (turned ∙ ap (λ o. is_gt (ordering_reverse o)) e)
        ] refl
      where
        turned : is_gt (bytes_cmp s.gln row.gln) ≡ is_gt (ordering_reverse (bytes_cmp row.gln s.gln))
        turned = ap is_gt (nat_list_cmp_total.antisymm s.gln row.gln)

  -- the row takes the same position as among the rows of the tables
  put_same : (rows : List SupplierRow) → HasNewGln rows → put row rows ≡ order.put supplier_cmp row rows
  put_same [] new = refl
  put_same (s ∷ rows) new =
      let parts = or_parts (same row.gln s.gln) (list_any (same row.gln) (map (λ (s : SupplierRow). s.gln) rows)) new in
      place s rows parts.0 (λ found. found ≡ order.put supplier_cmp row (s ∷ rows))
      (λ e. sym (ap (λ v. cond v (row ∷ s ∷ rows) (s ∷ order.put supplier_cmp row rows)) e))
      (λ e. ap (λ rest. s ∷ rest) (put_same rows parts.1)
      ∙ sym (ap (λ v. cond v (row ∷ s ∷ rows) (s ∷ order.put supplier_cmp row rows)) e))

  -- and it can be found there and taken out again
  without_put : (rows : List SupplierRow) → HasNewGln rows → without row.gln (put row rows) ≡ rows
  without_put [] new = ap (λ v. cond v [] (row ∷ [])) (same_if row.gln row.gln refl)
  without_put (s ∷ rows) new =
      let parts = or_parts (same row.gln s.gln) (list_any (same row.gln) (map (λ (s : SupplierRow). s.gln) rows)) new in
      place s rows parts.0 (λ found. without row.gln found ≡ s ∷ rows)
      (λ e. ap (λ v. cond v (s ∷ rows) (row ∷ without row.gln (s ∷ rows))) (same_if row.gln row.gln refl))
      (λ e. ap (λ v. cond v (put row rows) (s ∷ without row.gln (put row rows))) parts.0
      ∙ ap (λ rest. s ∷ rest) (without_put rows parts.1))

  -- a supplier found among the others is another one
  found_apart : (rows : List SupplierRow) → HasNewGln rows → (gln : List ℕ) (s : SupplierRow) → supplier_row rows gln ≡ Some s
      → same row.gln gln ≡ false
  found_apart [] new gln s known = cc
  found_apart (x ∷ rows) new gln s known =
      let parts = or_parts (same row.gln x.gln) (list_any (same row.gln) (map (λ (s : SupplierRow). s.gln) rows)) new in
      elim (same x.gln gln) as (λ v. same x.gln gln ≡ v → cond v (Some x) (supplier_row rows gln) ≡ Some s
      → same row.gln gln ≡ false) [
        | true ↦ λ e known. ap (same row.gln) (sym (same_is x.gln gln e)) ∙ parts.0
        | false ↦ λ e known. found_apart rows parts.1 gln s known
      ] refl known

  -- and is still found once the row is added
  found_beside : (rows : List SupplierRow) → HasNewGln rows → (gln : List ℕ) (s : SupplierRow) → supplier_row rows gln ≡ Some s
      → supplier_row (put row rows) gln ≡ Some s
  found_beside rows new gln s known =
      ap (λ rows. supplier_row rows gln) (put_same rows new)
      ∙ find_past supplier_cmp (λ supplier. same supplier.gln gln) rows row (found_apart rows new gln s known)
      ∙ known

-- A supplier that joins the register.
module _ (register : RegisterRows) (row : SupplierRow) (changes : List Change)
    (accepted : judge_join register row ≡ Accept changes) where
  new : HasNewGln row register.suppliers
  new =
      let one = or_parts (same row.gln register.hub) _ (rules register row changes accepted).0 in
      (or_parts (same row.gln register.retailer) _ one.1).1

  -- suppliers that were registered keep their rows
  pub keeps_with : KeepsRows register (joined_by row register)
  keeps_with = record { parties = refl; key = refl; rows = found_beside row register.suppliers new }

  -- without it the register is as before
  pub goes_back : left_by row.gln (joined_by row register) ≡ register
  goes_back = ap (λ suppliers. record register { suppliers = suppliers }) (without_put row register.suppliers new)

  module _ (may : is_join row ≡ true) (t : Tables) (here : SoundHub t) (of_tables : register ≡ register_of t) where
    by : JoinedBy row t (apply_all changes t)
    by = joining.joined_by row t here may changes (ap (λ r. judge_join r row) (sym of_tables) ∙ accepted)

    pub sound_with : SoundHub (apply_all changes t)
    sound_with = by.sound

    -- with it, the register is that of the tables with its rows
    pub of_tables_with : joined_by row register ≡ register_of (apply_all changes t)
    of_tables_with =
        ap (λ suppliers. record register { suppliers = suppliers }) (put_same row register.suppliers new)
        ∙ ap (λ (r : RegisterRows). record r { suppliers = order.put supplier_cmp row r.suppliers }) of_tables
        ∙ sym (λ i. register_by (hub_in (by.hubs i)) (by.suppliers i))

  -- and it is still a register
  pub takes : IsRegister register → is_join row ≡ true → IsRegister (joined_by row register)
  takes right may =
      let t = founded register in
      let of_tables = sym (register_back register right) in
      let here = founded_sound register right in
      subst IsRegister (sym (of_tables_with may t here of_tables)) (sound_with may t here of_tables).register.right

-- a join adds rows, and removes none
prefixes_clear_none : (gln : List ℕ) (prefixes : List (List ℕ))
    → AllByRecursion (λ change. clears change ≡ false) (prefix_changes gln prefixes)
prefixes_clear_none gln [] = tt
prefixes_clear_none gln (prefix ∷ prefixes) = (refl, prefixes_clear_none gln prefixes)

-- What a join does, by its verdict.
pub joined_as : (register : RegisterRows) (row : SupplierRow) (verdict : Verdict)
    → judge_join register row ≡ verdict
    → is_join row ≡ true
    → (t : Tables) → joined register Whole row t ≡ replied_by act_reply (act verdict t)
joined_as register row verdict is may t =
    ap (λ v. cond v (replied_by act_reply (act (judge_join register row) t)) (denied, t)) may
    ∙ ap (λ verdict. replied_by act_reply (act verdict t)) is

abbrev NothingSeen : Type 0
NothingSeen = Unit {0}

module _ {S : Type 0} (g : Ghosts S) (old new : S)
    (register : RegisterRows) (row : SupplierRow) (may : is_join row ≡ true) where
  -- the join is refused
  pub refused_carried : (verdict : Verdict) (reply : Reply)
      → judge_join register row ≡ verdict
      → ((t : Tables) → (act verdict t).1 ≡ t)
      → reply ≡ act_reply (told verdict)
      → Carried g old old (joined register Whole row) as_told (Ok reply)
  refused_carried verdict reply is stays says = record {
    done = λ h. joined_as register row verdict is may (g.content old) ∙ (λ i. (sym says i, stays (g.content old) i));
    durable = λ h t l. inr (refl, l);
    crash = λ h. tt;
  }

  module _ (changes : List Change) (accepted : judge_join register row ≡ Accept changes)
      (here : SoundHub (g.content old)) (of_tables : register ≡ register_of (g.content old)) where
    pub fits : Fit changes (g.content old)
    fits =
        fit_uncleared changes (g.content old)
        (subst (AllByRecursion (λ change. clears change ≡ false)) (sym (changes_are register row changes accepted))
        (refl, prefixes_clear_none row.gln row.prefixes))
        (sound_rises (apply_all changes (g.content old)) (sound_with register row changes accepted may (g.content old) here of_tables))

    -- the join is accepted
    pub accepted_carried : (reply : Reply) (done : NothingSeen)
        → reply ≡ act_reply (told (Accept changes))
        → (Fit changes (g.content old) → Carried g old new (act (Accept changes)) (λ _. Accepted) (Ok done))
        → Carried g old new (joined register Whole row) as_told (Ok reply)
    accepted_carried reply done says then = record {
      done = λ h. joined_as register row (Accept changes) accepted may (g.content old)
          ∙ (λ i. (sym says i, ((then fits).done h i).1));
      durable = (then fits).durable;
      crash = λ h. tt;
    }

    -- the store failed to commit the join
    pub accepted_failed : (fault other : StoreFault) (result : Result Reply StoreFault)
        → result ≡ Err other
        → (Fit changes (g.content old)
        → Carried {X = NothingSeen} g old new (act (Accept changes)) (λ _. Accepted) (Err fault))
        → Carried g old new (joined register Whole row) as_told result
    accepted_failed fault other result is then =
        subst (λ (r : Result Reply StoreFault). Carried g old new (joined register Whole row) as_told r)
        (sym is) (record {
          done = λ h. tt;
          durable = λ h. tt;
          crash = λ h t l. elim ((then fits).crash h t l) [
            | inl e ↦ inl e
            | inr e ↦ inr (e ∙ sym
                (ap (λ (after : Reply × Tables). after.1) (joined_as register row (Accept changes) accepted may (g.content old))))
          ];
        })

    -- the register is again that of the tables
    pub accepted_same : (done : NothingSeen)
        → (Fit changes (g.content old) → Carried g old new (act (Accept changes)) (λ _. Accepted) (Ok done))
        → g.honest new
        → joined_by row register ≡ register_of (g.content new)
    accepted_same done then h =
        of_tables_with register row changes accepted may (g.content old) here of_tables
        ∙ ap register_of (λ i. ((then fits).done h i).1)

-- How a join fails.
module _ (plain : Bool) (old new : Option LastingFault) (may_answer : Reply → Type 0) (reply : Reply) where
  pub refused_fails : may_answer reply → FailsWith plain ⊥ may_answer old old (Ok reply)
  refused_fails may = record { again = always old; after = refl; only_memory = λ p. (refl, tt) }
    where
      always : (o : Option LastingFault) → IfSome o (λ _. may_answer reply)
      always None = tt
      always (Some fault) = may

  pub accepted_fails : (done : NothingSeen) → FailsWith plain ⊥ no_answer old new (Ok done)
      → FailsWith plain ⊥ may_answer old new (Ok reply)
  accepted_fails done fails = record {
    again = never old fails.again;
    after = fails.after;
    only_memory = λ p. ((fails.only_memory p).0, tt);
  }
    where
      never : (o : Option LastingFault) → IfSome o (λ _. ⊥) → IfSome o (λ _. may_answer reply)
      never None impossible = tt
      never (Some fault) impossible = absurd impossible

-- the register and the verdict agree whether the supplier joins
pub both_joins : (register : RegisterRows) (row : SupplierRow) (verdict : Verdict)
    → judge_join register row ≡ verdict
    → is_join row ≡ true
    → joins register row ≡ is_accepted verdict
both_joins register row verdict is may =
    ap (λ v. v && is_accepted (judge_join register row)) may ∙ ap is_accepted is

-- The reply to a join, and the register after it.
module _ (register : RegisterRows) (row : SupplierRow) (reply : Reply) (may : is_join row ≡ true) where
  pub told_of : (verdict : Verdict) → judge_join register row ≡ verdict → reply ≡ act_reply (told verdict)
      → (t : Tables) → (joined register Whole row t).0 ≡ reply
  told_of verdict is says t = ap (λ (r : Reply × Tables). r.0) (joined_as register row verdict is may t) ∙ sym says

  pub moves_in : (changes : List Change) (after : RegisterRows) → judge_join register row ≡ Accept changes
      → reply ≡ act_reply (told (Accept changes))
      → after ≡ joined_by row register
      → MovesBy row register after reply
  moves_in changes after accepted says moved = inl (
    says ∙ ap (λ changes. act_reply (told (Accept changes))) (changes_are register row changes accepted),
    both_joins register row (Accept changes) accepted may,
    moved,
  )

refused_is_not : (code : _) → act_reply (told (Refuse code)) ≢ act_reply Accepted
refused_is_not code e = let no : true ≡ false = ap (λ (r : Reply). r.refused) e in cc

pub moves_not : (register : RegisterRows) (row : SupplierRow) (reply : Reply) (code : _)
    → reply ≡ act_reply (told (Refuse code))
    → MovesBy row register register reply
moves_not register row reply code says = inr (λ e. refused_is_not code (sym says ∙ e), refl)

-- Suppliers that were registered keep their rows.
pub keeps_all : (old after : RegisterRows) → after ≡ old → KeepsRows old after
keeps_all old after same = record {
  parties = ap parties_of same;
  key = ap (λ (r : RegisterRows). r.retailer_key) same;
  rows = λ gln s known. ap (λ r. row_of r gln) same ∙ known;
}

pub keeps_moved : (row : SupplierRow) (old after : RegisterRows) (reply : Reply) → MovesBy row old after reply
    → KeepsRows old after
keeps_moved row old after reply (inr none) = keeps_all old after none.1
keeps_moved row old after reply (inl all) =
    subst (KeepsRows old) (sym all.2) (go (judge_join old row) refl (and_parts (is_join row) (is_accepted (judge_join old row)) all.1).1)
  where
    go : (verdict : Verdict) → judge_join old row ≡ verdict → is_accepted (judge_join old row) ≡ true → KeepsRows old (joined_by row old)
    go (Accept changes) is accepted = keeps_with old row changes is
    go (Refuse code) is accepted = let no : false ≡ true = sym (ap is_accepted is) ∙ accepted in cc

pub keeps_on : (old between after : RegisterRows) → KeepsRows old between → KeepsRows between after → KeepsRows old after
keeps_on old between after one other = record {
  parties = other.parties ∙ one.parties;
  key = other.key ∙ one.key;
  rows = λ gln s known. other.rows gln s (one.rows gln s known);
}
