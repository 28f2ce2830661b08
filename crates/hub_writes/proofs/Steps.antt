-- Proves what one change after another does.
use Rattle.std.proofs.Common.{◌&&◌, ◌≡◌, ◌||◌, ◌==◌, ◌^◌, nat_le, Bool, cond, ap₂, arith, inl, inr, ℕ, List, [], ◌∷◌, true}
use Rattle.std.proofs.Common.{false, Result, Ok, Err, OnOk, IsTrue, refl, sym, ap, subst, ◌∙◌, true≢false, ◌⊎◌, ◌++◌, length}
use Rattle.std.proofs.Common.{append_assoc, length-append}
use Rattle.std.proofs.lemmas.Bool.{cases_Bool}
use Rattle.sqlite_trees.specs.declared.store.Store.{Ghosts}
use Rattle.sqlite_schema.specs.declared.command.Command.TheVariants.{Nothing}
use Rattle.sqlite_tied.specs.Compute.{everything}
use Rattle.sqlite.specs.declared.error.Error.{Error}
use Rattle.sqlite.specs.Held.{Held, state}
use Rattle.sqlite.specs.Listing.{understood}
use Rattle.sqlite.specs.State.{State, HasCleanDisk, ExecutesInside}
use Rattle.sqlite.proofs.Callers.{runs_as}
use Rattle.sqlite.proofs.StateLemmas.{survives_then}
use Rattle.sql_rows.proofs.Transactions.{kept_still, survives_still, kept_then, clean_before}
use Rattle.std.specs.List.{list_any}
use Rattle.std.proofs.lemmas.Bool.{and_parts}
use Rattle.std.proofs.lemmas.Bool.Decides.{nat_tests}
use Rattle.hub_parties.specs.KeyOrder.{replace}
use Rattle.hub_tables.specs.Rows.{same, same_mail, content_cmp, mail_cmp}
use Rattle.hub_tables.specs.declared.change.Change.TheVariants.{AddContent, AddMail, SetMail}
use Rattle.hub_tables.specs.declared.rows.ContentRow.{ContentRow}
use Rattle.hub_tables.specs.declared.rows.MailRow.{MailRow}
use Rattle.hub_tables.proofs.KeyOrder.{any_put}
use Rattle.hub_tables.proofs.Lists.{decide}
use Rattle.hub_tables.specs.Change.{apply, apply_all}
use Rattle.hub_tables.specs.Sets.{Fit}
use Rattle.hub_tables.specs.Tables.{Tables, empty}
use Rattle.hub_tables.specs.declared.change.Change.{Change}
use Rattle.hub_tables.proofs.Back.{fit_before, rises_at}
use Rattle.hub_store.specs.Calls.{has_place, have_places}
use Rattle.hub_store.specs.declared.fault.StoreFault.{StoreFault}
use Rattle.hub_store.specs.declared.fault.StoreFault.TheVariants.{Unclean}
use Rattle.hub_schema.specs.Rows.{tables_in}
use Rattle.hub_schema.specs.Schema.{hub_schema}
use Rattle.hub_schema.specs.State.{IsHub, Makes}
use Rattle.hub_schema.proofs.Leaving.{still, undone_later}
use Rattle.hub_schema.proofs.Single.{hub_rises}
use Rattle.hub_writes.specs.Acts.{great_place, great_entry, has_great, Acts, MakesFirst, HasRun}
use Rattle.hub_writes.specs.Faults.{ended}
use Rattle.hub_schema.proofs.Same.{same_hub}
use Rattle.hub_writes.proofs.Alters.{ReadsAs}
use Rattle.hub_writes.proofs.Outcomes.{Executed, first_failed}

nothing_is : ReadsAs [] Nothing
unfolding understood everything
nothing_is = (refl, (refl, refl))

-- an empty text changes nothing
pub nothing_made : (old new : State) (r : Result ℕ Error) → IsHub old → old.in_transaction ≡ true
    → ExecutesInside 0 [] [] old new r → OnOk r (Makes (apply_all []) old new)
nothing_made old new (Err e) hub begun h = tt
nothing_made old new (Ok count) hub begun h =
    let same = (runs_as [] [] old new hub_schema hub.schema Nothing nothing_is.0 nothing_is.1 count h.0).0.0 in
    record {
      hub = same_hub old new same.now_is hub;
      tables = ap (λ d. tables_in d.trees) same.now_is;
      committed =
          same.committed_is;
      mode = same.mode ∙ begun;
    }

-- a statement that ran in a transaction found the connection open
pub was_open : {S : Type 0} (g : Ghosts S) (sql : List ℕ) (params : _) (old new : Held S) (r : Result ℕ Error)
    → Executed g sql params old new r → HasCleanDisk (state g new)
    → OnOk (ended r) (IsTrue (state g old).is_open × IsTrue (state g old).in_transaction)
was_open g sql params old new (Err e) did clean = tt
was_open g sql params old new (Ok count) did clean = elim (cases_Bool old.in_transaction) [
  | inl begun ↦ ((did.runs clean begun).1.was_open, begun)
  | inr none ↦ absurd (let no = (did.ended none).0 in cc)
]

-- the first statement ran, and all changes are still to be made
pub run_none : (all : List Change) (a b : State) → Acts [] a b (Ok tt)
    → (HasCleanDisk b → IsTrue a.is_open × IsTrue a.in_transaction) → HasRun all all a b
run_none all a b it met = record {
  makes = λ clean hub. let did = it.makes clean hub (met clean).1 in
      record {
        hub = did.hub;
        tables = ap (apply_all all) did.tables;
        places = ap (have_places all) did.tables;
        fits = (subst (Fit all) did.tables, subst (Fit all) (sym did.tables));
        committed = did.committed;
        mode = did.mode;
      };
  mode = begun (cases_Bool a.in_transaction);
  stands = λ clean. let up = it.stands clean in ((met clean).0, up.0, up.1);
  made = [];
  are = refl;
  first = λ clean hub. (it.makes clean hub (met clean).1).tables;
  splits = λ t. (t, refl, λ h. h);
  kept = it.kept;
  survives = it.survives;
}
  where
    begun : (a.in_transaction ≡ true) ⊎ (a.in_transaction ≡ false) → a.in_transaction ≡ true
    begun (inl e) = e
    begun (inr e) = absurd (it.ended e).0

first_placed : (a b : Bool) → (a && b) ≡ true → (a && true) ≡ true
first_placed a b h = ap (λ v. v && true) (and_parts a b h).0

-- if the first change has its row, the later ones decide
placed_later : (a b : Bool) → (a && true) ≡ true → b ≡ (a && b)
placed_later true b h = refl
placed_later false b h = absurd cc

apply_behind : (first : List Change) (last : Change) (t : Tables)
    → apply_all (first ++ last ∷ []) t ≡ apply last (apply_all first t)
apply_behind [] last t = refl
apply_behind (change ∷ first) last t = apply_behind first last (apply change t)

pub run_one : (all left : List Change) (change : Change) (a b c : State) → HasRun all (change ∷ left) a b
    → Acts (change ∷ []) b c (Ok tt) → HasRun all left a c
run_one all left change a b c so_far it =
    let before = clean_before b c _ it.survives in
    record {
      makes = λ clean hub.
          let was = so_far.makes (before clean) hub in
          let did = it.makes clean was.hub was.mode in
          record {
            hub = did.hub;
            tables = ap (apply_all left) did.tables ∙ was.tables;
            places = ap (have_places left) did.tables
                ∙ placed_later (has_place change (tables_in b.now.trees)) _ (it.places clean was.hub was.mode)
                ∙ was.places;
            fits = (
              λ later. was.fits.0 (rises_at change (tables_in b.now.trees) (hub_rises b was.hub), subst (Fit left) did.tables later),
              λ fit. subst (Fit left) (sym did.tables) (was.fits.1 fit).1,
            );
            committed = did.committed
                ∙ was.committed;
            mode = did.mode;
          };
      mode = so_far.mode;
      stands = λ clean. let up = it.stands clean in ((so_far.stands (before clean)).0, up.0, up.1);
      made = so_far.made ++ change ∷ [];
      are = so_far.are ∙ sym (append_assoc so_far.made (change ∷ []) left);
      first = λ clean hub.
          let was = so_far.makes (before clean) hub in
          (it.makes clean was.hub was.mode).tables ∙ ap (apply change) (so_far.first (before clean) hub)
          ∙ sym (apply_behind so_far.made change (tables_in a.now.trees));
      splits = λ t.
          let u = so_far.splits t in
          (apply_all (change ∷ []) u.0, u.1, λ h. (and_parts (has_place change u.0) _ (u.2 h)).1);
      kept = λ clean. kept_then a b c (so_far.kept (before clean)) (it.kept clean);
      survives = survives_then a b c _ _ (λ _. ⊥) (λ _ db none. none) (λ _ db none. none) so_far.survives it.survives;
    }

pub run_all : (all : List Change) (a b : State) → HasRun all [] a b → Acts all a b (Ok tt)
run_all all a b it = record {
  makes = λ clean hub begun. let did = it.makes clean hub in
      record { hub = did.hub; tables = did.tables; committed = did.committed; mode = did.mode };
  places = λ clean hub begun. sym (it.makes clean hub).places;
  fits = λ clean hub begun. let did = it.makes clean hub in did.fits.0 (hub_rises b did.hub);
  unclean = λ clean no. absurd (let e = no in cc);
  stands = λ clean. let up = it.stands clean in (up.1, up.2);
  fault = λ clean begun. tt;
  ended = λ none. absurd (true≢false (sym it.mode ∙ none));
  kept = it.kept;
  survives = it.survives;
}

any_replaced : {X : Type 0} (p at : X → Bool) (row : X) (xs : List X) → ((x : X) → at x ≡ true → p row ≡ p x)
    → list_any p (replace at row xs) ≡ list_any p xs
any_replaced p at row [] same = refl
any_replaced p at row (x ∷ xs) same = ap₂ ◌||◌ (one (at x) refl) (any_replaced p at row xs same)
  where
    one : (b : Bool) → at x ≡ b → p (cond b row x) ≡ p x
    one true e = same x e
    one false e = refl

more_great : (a b c : Bool) → (a || b) ≡ true → ((a || (c || false)) || b) ≡ true
more_great true b c h = refl
more_great false b true h = refl
more_great false b false h = h

other_great : (a b c : Bool) → (a || b) ≡ true → (a || (b || (c || false))) ≡ true
other_great true b c h = refl
other_great false true c h = refl
other_great false false c h = absurd cc

-- an entry with the same key has the same number
same_great : (row old : MailRow) → same_mail row old ≡ true → great_entry row ≡ great_entry old
same_great row old e =
    let alike = (and_parts (same old.supplier row.supplier) (old.number == row.number) e).1 in
    let number : old.number ≡ row.number = grind (arith, nat_tests, alike) in
    ap (λ n. nat_le (2 ^ 63) n) (sym number)

entries_still_great : (row : MailRow) (entries : List MailRow)
    → list_any great_entry (replace (same_mail row) row entries) ≡ list_any great_entry entries
entries_still_great row entries = any_replaced great_entry (same_mail row) row entries (same_great row)

great_stays : (change : Change) (t : Tables) → has_great t ≡ true → has_great (apply change t) ≡ true
great_stays (AddContent row) t h =
    ap (λ b. b || list_any great_entry t.mail) (any_put content_cmp great_place t.contents row)
    ∙ more_great (list_any great_place t.contents) (list_any great_entry t.mail) (great_place row) h
great_stays (AddMail row) t h =
    ap (λ b. list_any great_place t.contents || b) (any_put mail_cmp great_entry t.mail row)
    ∙ other_great (list_any great_place t.contents) (list_any great_entry t.mail) (great_entry row) h
great_stays (SetMail row) t h = ap (λ b. list_any great_place t.contents || b) (entries_still_great row t.mail) ∙ h
great_stays change t h = h

there : (a b c : Bool) → c ≡ true → ((a || (c || false)) || b) ≡ true
there true b c h = refl
there false b true h = refl
there false b false h = absurd cc

there_too : (a b c : Bool) → c ≡ true → (a || (b || (c || false))) ≡ true
there_too true b c h = refl
there_too false true c h = refl
there_too false false true h = refl
there_too false false false h = absurd cc

pub place_is_great : (row : ContentRow) → great_place row ≡ true → (t : Tables)
    → has_great (apply_all (AddContent row ∷ []) t) ≡ true
place_is_great row h t =
    ap (λ b. b || list_any great_entry t.mail) (any_put content_cmp great_place t.contents row)
    ∙ there (list_any great_place t.contents) (list_any great_entry t.mail) (great_place row) h

pub entry_is_great : (row : MailRow) → great_entry row ≡ true → (t : Tables)
    → has_great (apply_all (AddMail row ∷ []) t) ≡ true
entry_is_great row h t =
    ap (λ b. list_any great_place t.contents || b) (any_put mail_cmp great_entry t.mail row)
    ∙ there_too (list_any great_place t.contents) (list_any great_entry t.mail) (great_entry row) h

-- an entry that replaces one whose number is too large also has such a number
place_great : (row : MailRow) → great_entry row ≡ true → (entries : List MailRow)
    → list_any (same_mail row) entries ≡ true → list_any great_entry entries ≡ true
place_great row great [] some = absurd cc
place_great row great (old ∷ entries) some = elim (decide (same_mail row old)) [
  | inl e ↦ ap (λ b. b || list_any great_entry entries) (sym (same_great row old e) ∙ great)
  | inr e ↦
      also (great_entry old) _
      (place_great row great entries (sym (ap (λ b. b || list_any (same_mail row) entries) e) ∙ some))
]
  where
    also : (a b : Bool) → b ≡ true → (a || b) ≡ true
    also true b h = refl
    also false b h = h

pub set_is_great : (row : MailRow) → great_entry row ≡ true → (t : Tables)
    → have_places (SetMail row ∷ []) t ≡ true → has_great (apply_all (SetMail row ∷ []) t) ≡ true
set_is_great row great t have =
    let some = place_great row great t.mail (and_parts (list_any (same_mail row) t.mail) true have).0 in
    ap (λ b. list_any great_place t.contents || b) (entries_still_great row t.mail ∙ some)
    ∙ or_true (list_any great_place t.contents)
  where
    or_true : (a : Bool) → (a || true) ≡ true
    or_true true = refl
    or_true false = refl

-- a change that is refused before any statement
pub refused_before : (change : Change) (s : State)
    → ((t : Tables) → have_places (change ∷ []) t ≡ true → has_great (apply_all (change ∷ []) t) ≡ true)
    → Acts (change ∷ []) s s (Err Unclean)
refused_before change s great = record {
  makes = λ clean hub begun. tt;
  places = λ clean hub begun. tt;
  fits = λ clean hub begun. tt;
  unclean = λ clean e. inr great;
  stands = λ clean. tt;
  fault = λ clean begun. inl (first_failed change s s begun (still s));
  ended = λ none. (tt, still s);
  kept = λ clean. kept_still s;
  survives = survives_still s;
}

-- a number that is too large stays in the tables
pub great_later : (changes : List Change) (t : Tables) → has_great t ≡ true → has_great (apply_all changes t) ≡ true
great_later [] t h = h
great_later (change ∷ changes) t h = great_later changes (apply change t) (great_stays change t h)

-- the first statement failed
pub none_run : (all : List Change) (a b : State) (fault : StoreFault) → Acts [] a b (Err fault)
    → Acts all a b (Err fault)
none_run all a b fault it = record {
  makes = λ clean hub begun. tt;
  places = λ clean hub begun. tt;
  fits = λ clean hub begun. tt;
  unclean = λ clean e. elim (it.unclean clean e) [
    | inl refused ↦ inl (
      refused.0,
      λ hub fit _. great_later all (tables_in a.now.trees) (refused.1 hub (hub_rises a hub) refl),
    )
    | inr great ↦ absurd (true≢false (sym (great empty refl)))
  ];
  stands = λ clean. tt;
  fault = λ clean begun. elim (it.fault clean begun) [
    | inl some ↦ absurd (none_there some.made some.failed some.left some.are)
    | inr back ↦ inr back
  ];
  ended = it.ended;
  kept = it.kept;
  survives = it.survives;
}
  where
    none_there : (made : List Change) (failed : Change) (left : List Change) → [] ≡ made ++ failed ∷ left → ⊥
    none_there [] failed left e = cc
    none_there (change ∷ made) failed left e = cc

-- if there is only one change and it failed, none came before it
alone : (change failed : Change) (made left : List Change) → (change ∷ []) ≡ made ++ failed ∷ left → made ≡ []
alone change failed [] left e = refl
alone change failed (first ∷ made) left e = absurd (omega (arith, ap length e, length-append made (failed ∷ left)))

-- a change failed, and the transaction is still open
stopped : (all left : List Change) (change : Change) (a b c : State) → HasCleanDisk b → HasRun all (change ∷ left) a b
    → MakesFirst (change ∷ []) b c → MakesFirst all a c
stopped all left change a b c clean so_far it = record {
  made = so_far.made;
  failed = change;
  left = left;
  are = so_far.are;
  makes = λ hub.
      let was = so_far.makes clean hub in
      let same = it.makes was.hub in
      record {
        hub = same.hub;
        tables = same.tables
            ∙ ap (λ made. apply_all made (tables_in b.now.trees)) (alone change it.failed it.made it.left it.are)
            ∙ so_far.first clean hub;
        committed = same.committed ∙ was.committed;
        mode = same.mode;
      };
  is_open = let up = so_far.stands clean in it.is_open ∙ up.1 ∙ sym up.0;
}

-- a change failed
pub run_failed : (all left : List Change) (change : Change) (a b c : State) (fault : StoreFault)
    → HasRun all (change ∷ left) a b → Acts (change ∷ []) b c (Err fault) → Acts all a c (Err fault)
run_failed all left change a b c fault so_far it =
    let before = clean_before b c _ it.survives in
    record {
      makes = λ clean hub begun. tt;
      places = λ clean hub begun. tt;
      fits = λ clean hub begun. tt;
      unclean = λ clean e. elim (it.unclean clean e) [
        | inl refused ↦ inl (
          (so_far.stands (before clean)).0,
          λ hub fit have.
              let was = so_far.makes (before clean) hub in
              let here = was.fits.1 fit in
              let great = refused.1 was.hub (here.0, fit_before left (apply change (tables_in b.now.trees)) here.1)
              (first_placed (has_place change (tables_in b.now.trees)) _ (was.places ∙ have)) in
              subst (λ t. has_great t ≡ true) was.tables (great_later left (apply_all (change
              ∷ []) (tables_in b.now.trees)) great),
        )
        | inr great ↦ inr (λ t have.
            let u = so_far.splits t in
            let first = great u.0 (first_placed (has_place change u.0) _ (u.2 have)) in
            ap has_great u.1 ∙ great_later left (apply_all (change ∷ []) u.0) first)
      ];
      stands = λ clean. tt;
      fault = λ clean begun. elim (it.fault clean (so_far.stands (before clean)).2) [
        | inl some ↦ inl (stopped all left change a b c (before clean) so_far some)
        | inr back ↦ inr (undone_later a b c (so_far.kept (before clean)) back)
      ];
      ended = λ none. absurd (true≢false (sym so_far.mode ∙ none));
      kept = λ clean. kept_then a b c (so_far.kept (before clean)) (it.kept clean);
      survives = survives_then a b c _ _ (λ _. ⊥) (λ _ db none. none) (λ _ db none. none) so_far.survives it.survives;
    }
