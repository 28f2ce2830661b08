-- Proves what a commit leaves once its transaction has ended.
use Rattle.std.proofs.Common.{◌≡◌, ◌||◌, nat_le, inl, inr, Bool, true, false, ◌&&◌, List, [], ◌∷◌, Result, Ok, Err}
use Rattle.std.proofs.Common.{OnOk, IfErr, IsTrue, refl, sym, ap, ◌∙◌, true≢false, arith}
use Rattle.std.specs.List.{list_any, list_all}
use Rattle.std.proofs.lemmas.Bool.{and_parts}
use Rattle.std.proofs.lemmas.Bool.Decides.{nat_tests}
use Rattle.sqlite_trees.specs.Tree.{Trees}
use Rattle.sqlite_trees.specs.declared.store.Store.{Ghosts}
use Rattle.sqlite.specs.declared.error.Error.{Error}
use Rattle.sqlite.specs.Held.{Held, state}
use Rattle.sqlite.specs.State.{State, HasCleanDisk, IsRolledBack, Shows, Survives}
use Rattle.sqlite.specs.Steps.{FailsToCommit}
use Rattle.sqlite.proofs.Callers.{survives_begin}
use Rattle.sqlite.proofs.StateLemmas.{survives_then}
use Rattle.sql_rows.proofs.Transactions.{clean_before, undone, lasts}
use Rattle.hub_tables.specs.Change.{apply_all}
use Rattle.hub_tables.specs.Sets.{Fit}
use Rattle.hub_tables.specs.Tables.{Tables}
use Rattle.hub_tables.specs.declared.change.Change.{Change}
use Rattle.hub_tables.specs.declared.rows.ContentRow.{ContentRow}
use Rattle.hub_tables.specs.declared.rows.MailRow.{MailRow}
use Rattle.hub_tables.proofs.Lists.{decide}
use Rattle.edi_segments.specs.Service.{is_decimal}
use Rattle.edi_envelope.specs.Mail.{last_number}
use Rattle.edi_moment.specs.Moment.{last_moment}
use Rattle.gs1_ids.specs.Digits.{is_key}
use Rattle.gs1_ids.specs.Gln.{is_gln}
use Rattle.hub_store.specs.Clean.{are_clean, clean_order, clean_line, clean_advice, clean_pallet, clean_content}
use Rattle.hub_store.specs.Clean.{clean_hub, clean_key, clean_prefix}
use Rattle.hub_store.specs.Clean.{clean_receipt, clean_remembered, clean_mail, is_within, is_number, is_line}
use Rattle.hub_store.specs.Clean.{is_quantity, is_kind, is_truth, are_bytes}
use Rattle.hub_store.specs.declared.fault.StoreFault.{StoreFault}
use Rattle.hub_schema.specs.Rows.{tables_in}
use Rattle.hub_schema.specs.State.{IsHub, Makes, Holds, CommitsTo}
use Rattle.hub_writes.specs.Acts.{great_place, great_entry, has_great, Acts}
use Rattle.hub_writes.specs.Faults.{ended}
use Rattle.hub_writes.proofs.Outcomes.{no_unclean}
use Rattle.hub_schema.proofs.Same.{same_hub}

-- A row with a number too large for SQL is not clean.

none_such : {X : Type 0} (p q : X → Bool) (xs : List X) → ((x : X) → p x ≡ true → q x ≡ true → ⊥)
    → list_any p xs ≡ true → list_all q xs ≡ true → ⊥
none_such p q [] apart some all = cc
none_such p q (x ∷ xs) apart some all =
    let parts = and_parts (q x) (list_all q xs) all in
    elim (decide (p x)) [
      | inl e ↦ apart x e parts.0
      | inr e ↦ none_such p q xs apart (sym (ap (λ b. b || list_any p xs)
          e) ∙ some) parts.1
    ]

place_apart : (row : ContentRow) → great_place row ≡ true → clean_content row ≡ true → ⊥
place_apart row great clean =
    let rest = is_number row.number && (is_line row.line && is_quantity row.quantity) in
    let within = (and_parts (is_within 1 999_999 row.place) rest (and_parts (is_key 18 row.sscc) (is_within 1 999_999
    row.place && rest) clean).1).0 in
    let low = (and_parts (nat_le 1 row.place) (nat_le row.place 999_999) within).1 in
    grind (arith, nat_tests, great, low)

entry_apart : (row : MailRow) → great_entry row ≡ true → clean_mail row ≡ true → ⊥
entry_apart row great clean =
    let rest = nat_le row.moment last_moment
    && (is_decimal row.decimal
    && (is_kind row.kind && (is_number row.document && (are_bytes row.body && is_truth row.taken)))) in
    let within = (and_parts (is_within 1 last_number row.number) rest (and_parts (is_gln row.supplier) (is_within 1
    last_number row.number && rest) clean).1).0 in
    let low = (and_parts (nat_le 1 row.number) (nat_le row.number last_number) within).1 in
    grind (arith, nat_tests, great, low)

pub great_unclean : (t : Tables) → has_great t ≡ true → are_clean t ≡ false
great_unclean t great = elim (decide (are_clean t)) [
  | inl clean ↦
      let later = list_all clean_receipt t.receipts
      && (list_all clean_remembered t.remembered && list_all clean_mail t.mail) in
      let contents = and_parts (list_all clean_content t.contents) later (and_parts (list_all clean_pallet t.pallets) _
      (and_parts (list_all clean_advice t.advices) _ (and_parts (list_all clean_line t.lines) _ (and_parts
      (list_all clean_order t.orders) _ (and_parts (list_all clean_prefix t.prefixes) _ (and_parts
      (list_all clean_key t.keys) _ (and_parts (list_all clean_hub t.hubs) _ clean).1).1).1).1).1).1).1 in
      let mail = (and_parts (list_all clean_remembered t.remembered) (list_all clean_mail t.mail) (and_parts (list_all
      clean_receipt t.receipts) (list_all clean_remembered t.remembered
      && list_all clean_mail t.mail) contents.1).1).1 in
      absurd (elim (decide (list_any great_place t.contents)) [
        | inl e ↦ none_such great_place clean_content t.contents place_apart e contents.0
        | inr e ↦ none_such great_entry clean_mail t.mail entry_apart (sym (ap (λ b. b || list_any great_entry t.mail)
            e) ∙ great) mail
      ])
  | inr e ↦ e
]

module _ {S : Type 0} (g : Ghosts S) (old mid end : Held S) (changes : List Change) where
  abbrev begun : State
  begun = state g (record old { in_transaction = true })

  begun_hub : IsHub (state g old) → IsHub begun
  begun_hub hub = record { schema = hub.schema; numbered = hub.numbered; ordered = hub.ordered; sound = hub.sound }

  abbrev WasCommitted : Type 0
  WasCommitted = IsTrue (state g old).is_open → (state g old).now ≡ (state g old).committed

  -- the changes failed, and the transaction is rolled back
  pub failed : (fault : StoreFault) → Acts changes begun (state g mid) (Err fault) → WasCommitted
      → end.in_transaction ≡ false → (HasCleanDisk (state g end) → IsRolledBack (state g mid) (state g end))
      → Survives (state g mid) (state g end) (λ _. ⊥)
      → CommitsTo changes (state g old) (state g end) (Err fault)
  failed fault it settled idle back last =
      let early = clean_before (state g mid) (state g end) _ last in
      record {
        done = λ clean holds. tt;
        places = λ clean holds. tt;
        ran = λ clean. tt;
        kept = λ clean holds o.
            let rolled = back clean in
            let kept = it.kept (early clean) in (
              kept.was_open (rolled.was_open o),
              undone (state g old) begun (state g mid) (state g end) refl (λ h. h) settled kept rolled o,
            );
        mode = idle;
        crash = survives_then (state g old) (state g mid) (state g end) _ _ _ (λ _ db none. absurd none) (λ _ db none.
            absurd none) (survives_begin g old (state g mid) _ it.survives) last;
        durable = λ clean. tt;
        unclean = λ clean holds e. elim (it.unclean (early clean) e) [
          | inl refused ↦ inl (
            refused.0,
            λ fit have. inr (great_unclean (apply_all changes (tables_in (state g old).now.trees))
                (refused.1 (begun_hub (holds refused.0)) fit have)),
          )
          | inr great ↦ inr (λ t have. great_unclean (apply_all changes t) (great t have))
        ];
      }

  abbrev EndsWithTrees : Trees → Type 0
  EndsWithTrees db = db ≡ (state g mid).now.trees

  module _ (it : Acts changes begun (state g mid) (Ok tt)) (was_open : HasCleanDisk (state g mid)
      → IsTrue begun.is_open) (last : Survives (state g mid) (state g end) EndsWithTrees) where
    early : HasCleanDisk (state g end) → HasCleanDisk (state g mid)
    early = clean_before (state g mid) (state g end) _ last

    made : HasCleanDisk (state g end) → Holds (state g old) → Makes (apply_all changes) begun (state g mid)
    made clean holds = it.makes (early clean) (begun_hub (holds (was_open (early clean)))) refl

    none_done : WasCommitted → HasCleanDisk (state g end) → Holds (state g old) → IsTrue (state g end).is_open
        → (e : Error) → FailsToCommit (state g mid) (state g end) e
        → IsTrue (state g old).is_open × ((state g end).now ≡ (state g old).now)
    none_done settled clean holds o e (inl fails) =
        let kept = it.kept (early clean) in (
          kept.was_open (fails.3.was_open o),
          undone (state g old) begun (state g mid) (state g end) refl (λ h. h) settled kept fails.3 o,
        )
    none_done settled clean holds o e (inr late) = absurd (true≢false (sym (made clean holds).mode ∙ late.1))

    survived : Survives (state g old) (state g end)
        (λ trees. Holds (state g old) → IsTrue (state g old).is_open × Fit changes (tables_in (state g old).now.trees)
        × (tables_in trees ≡ apply_all changes (tables_in (state g old).now.trees)))
    survived = survives_then (state g old) (state g mid) (state g end) _ _ _ (λ _ db none. absurd none)
        (λ clean db is holds.
        let did = made clean holds in (
          was_open (early clean),
          it.fits (early clean) (begun_hub (holds (was_open (early clean)))) refl,
          ap tables_in is ∙ did.tables,
        ))
        (survives_begin g old (state g mid) _ it.survives) last

    -- the transaction ends with a commit, and both give one result
    pub succeeded : (r : Result (Unit {0}) Error) → WasCommitted → end.in_transaction ≡ false
        → (HasCleanDisk (state g end)
        → OnOk r (Shows (state g mid) (state g end) (state g mid).now (state g mid).now false))
        → (HasCleanDisk (state g end) → IfErr r (FailsToCommit (state g mid) (state g end)))
        → ((db : Trees) → IsTrue (state g end).is_open → (state g end).may_leave db
        → db ≡ (state g end).committed.trees) → CommitsTo changes (state g old) (state g end) (ended r)
    succeeded (Ok u) settled idle ok err law = record {
      done = λ clean holds.
          let did = made clean holds in
          let shows = ok clean in (
            shows.is_open,
            same_hub (state g mid) (state g end) shows.now_is did.hub,
            ap (λ d. tables_in d.trees) shows.now_is ∙ did.tables,
          );
      places = λ clean holds. it.places (early clean) (begun_hub (holds (was_open (early clean)))) refl;
      ran = λ clean. was_open (early clean);
      kept = λ clean holds o. tt;
      mode = idle;
      crash = survived;
      durable = λ clean. lasts (state g mid) (state g end) (ok clean) law;
      unclean = λ clean holds e. absurd (let bad = e in cc);
    }
    succeeded (Err e) settled idle ok err law = record {
      done = λ clean holds. tt;
      places = λ clean holds. tt;
      ran = λ clean. tt;
      kept = λ clean holds o. none_done settled clean holds o e (err clean);
      mode = idle;
      crash = survived;
      durable = λ clean. tt;
      unclean = λ clean holds h. absurd (no_unclean {X = Unit {0}} (Err e) h);
    }
