-- Shows which judges accept only changes of clean rows.
use Rattle.std.proofs.Common.{◌≡◌, ℕ, ◌==◌, nat_le, true, false, List, [], ◌∷◌, ◌++◌, ◌&&◌, length, Some, sym, subst, cond, refl}
use Rattle.std.specs.List.{AllByRecursion, list_all}
use Rattle.std.proofs.lemmas.Bool.{and_parts, and_from}
use Rattle.edi_segments.specs.Service.{is_decimal}
use Rattle.edi_envelope.specs.Mail.{last_number}
use Rattle.edi_moment.specs.Moment.{last_moment}
use Rattle.gs1_ids.specs.Gln.{is_gln}
use Rattle.gs1_ids.specs.Prefix.{is_prefix}
use Rattle.hub_parties.specs.Key.{is_party_key}
use Rattle.hub_parties.specs.Prefixes.{are_company_prefixes, most_prefixes, rising}
use Rattle.hub_parties.specs.Rows.{RegisterRows}
use Rattle.hub_parties.specs.declared.row.SupplierRow.{SupplierRow}
use Rattle.hub_tables.specs.Cases.{truth_number}
use Rattle.hub_tables.specs.Change.{apply_all}
use Rattle.hub_tables.specs.Register.{prefix_changes, row_changes}
use Rattle.hub_tables.specs.State.{entry_at, is_taken}
use Rattle.hub_tables.specs.Tables.{Tables, view}
use Rattle.hub_tables.specs.declared.change.Change.{Change}
use Rattle.hub_tables.specs.declared.change.Change.TheVariants.{SetMail}
use Rattle.hub_tables.specs.declared.rows.MailRow.{MailRow}
use Rattle.hub_tables.proofs.Lists.{all_found}
use Rattle.hub_store.specs.Clean.{is_within, is_number, is_kind, are_bytes, is_truth, clean_mail, are_clean}
use Rattle.hub_rules.specs.Judging.{Judge, gives, goes_on, in_turn, in_order}
use Rattle.hub_rules.specs.JoinRules.{is_join, judge_join}
use Rattle.hub_rules.specs.declared.verdict.Verdict.{Verdict}
use Rattle.hub_rules.specs.declared.verdict.Verdict.TheVariants.{Accept, Refuse}
use Rattle.hub_rules.proofs.Verdicts.{joined_rest}
use Rattle.hub_law.specs.Requests.{taking}
use Rattle.hub_law.specs.Told.{changed}
use Rattle.hub_clean.proofs.Joined.{changes_are}
use Rattle.hub_clean.proofs.CleanRows.{CleanRows, CleanChange, clean_all, clean_rows, clean_view, rows_clean}

-- all changes are of clean rows
abbrev pub CleanChanges : List Change → Type 0
CleanChanges changes = AllByRecursion CleanChange changes

abbrev pub Cleans : Judge → Type 0
Cleans judge = (state : Tables) (changes : List Change) → CleanRows state → judge state ≡ Accept changes → CleanChanges changes

pub accepted : (given changes : List Change) → ◌≡◌ {A = Verdict} (Accept given) (Accept changes) → CleanChanges given → CleanChanges changes
accepted given changes h clean = let e : given ≡ changes = cc in subst CleanChanges e clean

both_clean : (a b : List Change) → CleanChanges a → CleanChanges b → CleanChanges (a ++ b)
both_clean [] b first second = second
both_clean (change ∷ changes) b first second = (first.0, both_clean changes b first.1 second)

-- the given changes, then what a judge decides on what they left
pub cleans_rest : (first : List Change) (second : Judge) (state : Tables) (changes : List Change) → CleanRows state → CleanChanges first →
    Cleans second → in_turn (gives first) second state ≡ Accept changes → CleanChanges changes
cleans_rest first second state changes rows clean f h =
    let rest = joined_rest first (second (apply_all first state)) changes h in
    subst CleanChanges rest.2 (both_clean first rest.0 clean (f (apply_all first state) rest.0 (clean_all first state clean rows) rest.1))

cleans_in_turn : (first second : Judge) → Cleans first → Cleans second → Cleans (in_turn first second)
cleans_in_turn first second f g state changes rows h =
    elim (first state) as (λ v. first state ≡ v → goes_on v second state ≡ Accept changes → CleanChanges changes) [
      | Refuse code ↦ λ e rest. cc
      | Accept a ↦ λ e rest. cleans_rest a second state changes rows (f state a rows e) g rest
    ] refl h

pub cleans_in_order : {X : Type 0} (judge : X → Judge) (xs : List X) → AllByRecursion (λ x. Cleans (judge x)) xs →
    Cleans (in_order judge xs)
cleans_in_order judge [] all state changes rows h = accepted [] changes h tt
cleans_in_order judge (x ∷ xs) all state changes rows h = cleans_in_turn (judge x) (in_order judge xs) all.0
    (cleans_in_order judge xs all.1) state changes rows h

-- The tables after what is accepted.

pub cleaned : (s : SupplierRow) (t : Tables) (judge : Judge) → Cleans judge → are_clean t ≡ true →
    are_clean (changed (judge (view s.gln t)) t) ≡ true
cleaned s t judge f h =
    let rows = clean_rows t h in
    elim (judge (view s.gln t)) as (λ v. judge (view s.gln t) ≡ v → are_clean (changed v t) ≡ true) [
      | Refuse code ↦ λ e. h
      | Accept changes ↦ λ e. rows_clean (apply_all changes t) (clean_all changes t (f (view s.gln t) changes
          (clean_view s.gln t rows) e) rows)
    ] refl

clean_taking : (entry : MailRow) → clean_mail entry ≡ true → CleanChanges (taking entry)
clean_taking entry clean =
    elim (is_taken entry) as (λ v. CleanChanges (cond v [] (SetMail (record entry { taken = truth_number true }) ∷ []))) [
      | true ↦ tt
      | false ↦
          let a = and_parts (is_gln entry.supplier) _ clean in
          let b = and_parts (is_within 1 last_number entry.number) _ a.1 in
          let c = and_parts (nat_le entry.moment last_moment) _ b.1 in
          let d = and_parts (is_decimal entry.decimal) _ c.1 in
          let e = and_parts (is_kind entry.kind) _ d.1 in
          let f = and_parts (is_number entry.document) _ e.1 in
          let g = and_parts (are_bytes entry.body) (is_truth entry.taken) f.1 in (
            and_from _ _ a.0 (and_from _ _ b.0 (and_from _ _ c.0 (and_from _ _ d.0
                (and_from _ _ e.0 (and_from _ _ f.0 (and_from _ _ g.0 refl)))))),
            tt,
          )
    ]

pub cleaned_taken : (gln : List ℕ) (number : ℕ) (t : Tables) (entry : MailRow) → are_clean t ≡ true →
    entry_at (view gln t) number ≡ Some entry → are_clean (apply_all (taking entry) t) ≡ true
cleaned_taken gln number t entry h found =
    let rows = clean_rows t h in
    let seen = clean_view gln t rows in
    let clean = (all_found (λ entry. clean_mail entry ≡ true) (λ entry. entry.number == number)
    (view gln t).mail entry seen.mail found).0 in
    rows_clean (apply_all (taking entry) t) (clean_all (taking entry) t (clean_taking entry clean) rows)

-- the rows of a supplier that joins
clean_prefixes : (gln : List ℕ) (prefixes : List (List ℕ))
    → is_gln gln ≡ true
    → list_all is_prefix prefixes ≡ true
    → CleanChanges (prefix_changes gln prefixes)
clean_prefixes gln [] right all = tt
clean_prefixes gln (prefix ∷ prefixes) right all =
    let parts = and_parts (is_prefix prefix) (list_all is_prefix prefixes) all in
    (and_from _ _ parts.0 right, clean_prefixes gln prefixes right parts.1)

clean_join : (row : SupplierRow) → is_join row ≡ true → CleanChanges (row_changes row)
clean_join row may =
    let gln = and_parts (is_gln row.gln) (are_company_prefixes row.prefixes && is_party_key row.key) may in
    let both = and_parts (are_company_prefixes row.prefixes) (is_party_key row.key) gln.1 in
    let some = and_parts (nat_le 1 (length row.prefixes)) _ both.0 in
    let few = and_parts (nat_le (length row.prefixes) most_prefixes) _ some.1 in (
      and_from _ _ gln.0 both.1,
      clean_prefixes row.gln row.prefixes gln.0
          (and_parts (list_all is_prefix row.prefixes) (rising row.prefixes) few.1).0,
    )

pub cleaned_join : (register : RegisterRows) (row : SupplierRow) (t : Tables)
    → is_join row ≡ true
    → are_clean t ≡ true
    → are_clean (changed (judge_join register row) t) ≡ true
cleaned_join register row t may h =
    elim (judge_join register row) as (λ v. judge_join register row ≡ v → are_clean (changed v t) ≡ true) [
      | Refuse code ↦ λ e. h
      | Accept changes ↦ λ e. rows_clean (apply_all changes t) (clean_all changes t
          (subst CleanChanges (sym (changes_are register row changes e)) (clean_join row may)) (clean_rows t h))
    ] refl
