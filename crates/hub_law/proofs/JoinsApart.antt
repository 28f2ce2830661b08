-- Shows that joins of others do not affect what a GLN sees.
use Rattle.std.proofs.Common.{◌≡◌, ◌≢◌, ◌⊎◌, ℕ, nat_lt, Bool, true, false, ◌&&◌, ◌||◌, if◌then◌else◌, inl, inr, List, [], ◌∷◌, ◌++◌}
use Rattle.std.proofs.Common.{map, take, Option, Some, None, refl, sym, ◌∙◌, ap}
use Rattle.std.specs.List.{list_any}
use Rattle.std.proofs.lemmas.Bool.{or_right}
use Rattle.std.proofs.Math.Bool.{and-false}
use Rattle.edi_base.proofs.Twice.{bytes_eq-sym}
use Rattle.hub_parties.specs.Rows.{RegisterRows, supplier_row, role_of}
use Rattle.hub_parties.specs.declared.role.Role.{Role}
use Rattle.hub_parties.specs.declared.role.Role.TheVariants.{Retailer, Supplier}
use Rattle.hub_parties.specs.declared.row.SupplierRow.{SupplierRow}
use Rattle.hub_tables.specs.Register.{register_of, hub_in, row_at, row_changes}
use Rattle.hub_tables.specs.Rows.{same}
use Rattle.hub_tables.specs.Tables.{Tables, view}
use Rattle.hub_tables.proofs.Lists.{decide, same_is, differ, any_if_found}
use Rattle.hub_rules.specs.JoinRules.{is_join, is_known, overlap_others, is_full, joins, is_accepted}
use Rattle.hub_rules.specs.Judging.{refuse_if}
use Rattle.hub_rules.specs.Laws.{SoundHub}
use Rattle.hub_rules.specs.declared.code.Code.TheVariants.{GlnKnown, PrefixOverlaps, RegisterFull}
use Rattle.hub_rules.specs.declared.verdict.Verdict.TheVariants.{Accept}
use Rattle.hub_law.specs.Alone.{Item, Message, Own, Joined, own_items, retailer_items, items_as, items_of_input, items, naming}
use Rattle.hub_law.specs.Laws.{IsOther, NobodyLetsIn, StandsApart, alone}
use Rattle.hub_law.specs.Machine.{Inputs, shared_step, shared_run, replies_to}
use Rattle.hub_law.specs.Mark.{Mark, Whole, StoppedEmpty, StoppedBare, StoppedAfter, acts_done}
use Rattle.hub_law.specs.Requests.{looked_at, from_retailer}
use Rattle.hub_requests.specs.declared.request.Input.{Input}
use Rattle.hub_requests.specs.declared.request.Request.{Request}
use Rattle.hub_requests.specs.declared.request.Request.TheVariants as requests
use Rattle.hub_law.proofs.Agreeing.{items_after}
use Rattle.hub_law.proofs.Going.{step_goes, run_goes, retailer_stays}
use Rattle.hub_law.proofs.Retailers.{none_of_one}
use Rattle.hub_law.proofs.Runs.{whole_run}

-- A join that is not an item of the GLN.
module _ (gln : List ℕ) (t : Tables) (input : Input) (mark : Mark) (row : SupplierRow) (asks : input.request ≡ requests.Join row)
    (caller : input.caller ≢ gln) where
  not_its_own : own_items gln input mark ≡ []
  not_its_own = ap (λ v. if v then Own input mark ∷ [] else []) (differ input.caller gln caller)

  by_role : (role : Option Role)
      → retailer_items gln (register_of t) input.moment mark (requests.Join row) ≡ []
      → items_as gln (register_of t) role input mark ≡ []
  by_role (Some Retailer) none = ap (retailer_items gln (register_of t) input.moment mark) asks ∙ none
  by_role (Some Supplier) none = not_its_own
  by_role None none = not_its_own

  pub another_joins : row.gln ≢ gln → items_of_input gln t input mark ≡ []
  another_joins other = by_role (role_of (register_of t) input.caller input.key)
      (ap (λ v. if v && joins (register_of t) row then take (acts_done mark 1) (Joined row ∷ []) else []) (differ row.gln gln other))

  pub refused_join : joins (register_of t) row ≡ false → items_of_input gln t input mark ≡ []
  refused_join refuses = by_role (role_of (register_of t) input.caller input.key)
      (ap (λ v. if same row.gln gln && v then take (acts_done mark 1) (Joined row ∷ []) else []) refuses
      ∙ neither (same row.gln gln))
    where
      neither : (v : Bool) → (if v && false then take (acts_done mark 1) (Joined row ∷ []) else []) ≡ []
      neither true = refl
      neither false = refl

  pub stopped_join : mark ≢ Whole → items_of_input gln t input mark ≡ []
  stopped_join stopped = by_role (role_of (register_of t) input.caller input.key)
      (ap (λ taken. if same row.gln gln && joins (register_of t) row then taken else []) (none_taken mark stopped)
      ∙ neither (same row.gln gln && joins (register_of t) row))
    where
      none_taken : (mark : Mark) → mark ≢ Whole → take (acts_done mark 1) (Joined row ∷ []) ≡ []
      none_taken Whole stopped = absurd (stopped refl)
      none_taken StoppedEmpty stopped = refl
      none_taken StoppedBare stopped = refl
      none_taken (StoppedAfter k) stopped = ap (λ n. take n (Joined row ∷ [])) (none_of_one k (nat_lt k 1) refl)

      neither : (v : Bool) → ◌≡◌ {A = List Item} (if v then [] else []) []
      neither true = refl
      neither false = refl

-- a registered supplier cannot join
known_never_joins : (register : RegisterRows) (gln : List ℕ) (s row : SupplierRow)
    → supplier_row register.suppliers gln ≡ Some s
    → row.gln ≡ gln
    → joins register row ≡ false
known_never_joins register gln s row known is =
    ap (λ v. is_join row && is_accepted (refuse_if v GlnKnown (refuse_if (overlap_others register row.prefixes) PrefixOverlaps
    (refuse_if (is_full register) RegisterFull (Accept (row_changes row)))))) there
    ∙ and-false (is_join row)
  where
    turned : (suppliers : List SupplierRow)
        → list_any (same gln) (map (λ (s : SupplierRow). s.gln) suppliers)
        ≡ list_any (λ (s : SupplierRow). same s.gln gln) suppliers
    turned [] = refl
    turned (s ∷ suppliers) = λ i. bytes_eq-sym gln s.gln i || turned suppliers i

    there : is_known register row.gln ≡ true
    there =
        ap (is_known register) is
        ∙ or_right (same gln register.hub) _ (or_right (same gln register.retailer) _
        (turned register.suppliers ∙ any_if_found (λ (s : SupplierRow). same s.gln gln) register.suppliers s known))

-- The GLN has its row in both, or no one registers it.
abbrev Settled : List ℕ → Tables → Tables → Inputs → Type 0
Settled gln t u inputs =
    (((s : SupplierRow) × (row_at gln t ≡ Some s)) × ((s : SupplierRow) × (row_at gln u ≡ Some s))) ⊎ NobodyLetsIn gln inputs

-- in tables of the same hub, the items are the same
module _ (gln : List ℕ) (t u : Tables) (here : SoundHub t) (there : SoundHub u) (hubs : u.hubs ≡ t.hubs) where
  joins_alike : (row : SupplierRow)
      → (((s : SupplierRow) × (row_at gln t ≡ Some s)) × ((s : SupplierRow) × (row_at gln u ≡ Some s))) ⊎ (row.gln ≢ gln)
      → (same row.gln gln && joins (register_of t) row) ≡ (same row.gln gln && joins (register_of u) row)
  joins_alike row (inr other) =
      let differs = differ row.gln gln other in
      ap (λ v. v && joins (register_of t) row) differs ∙ sym (ap (λ v. v && joins (register_of u) row) differs)
  joins_alike row (inl both) =
      elim (decide (same row.gln gln)) [
        | inl e ↦
            let is = same_is row.gln gln e in
            ap (λ v. same row.gln gln && v) (known_never_joins (register_of t) gln both.0.0 row both.0.1 is
            ∙ sym (known_never_joins (register_of u) gln both.1.0 row both.1.1 is))
        | inr e ↦ ap (λ v. v && joins (register_of t) row) e ∙ sym (ap (λ v. v && joins (register_of u) row) e)
      ]

  requests_alike : (moment : ℕ) (mark : Mark) (request : Request)
      → ((row : SupplierRow) → request ≡ requests.Join row
      → (((s : SupplierRow) × (row_at gln t ≡ Some s)) × ((s : SupplierRow) × (row_at gln u ≡ Some s))) ⊎ (row.gln ≢ gln))
      → retailer_items gln (register_of t) moment mark request ≡ retailer_items gln (register_of u) moment mark request
  requests_alike moment mark (requests.Upload bytes) settled =
      λ i. map Message (naming gln (looked_at moment mark
      (from_retailer (record { hub = (hub_in (sym hubs i)).hub; retailer = (hub_in (sym hubs i)).retailer }) bytes)))
  requests_alike moment mark (requests.MailAfter number) settled = refl
  requests_alike moment mark (requests.MailItem number) settled = refl
  requests_alike moment mark (requests.MailTaken number) settled = refl
  requests_alike moment mark requests.Status settled = refl
  requests_alike moment mark (requests.StatusOf other) settled = refl
  requests_alike moment mark (requests.Cancel c) settled = refl
  requests_alike moment mark (requests.Join row) settled =
      ap (λ v. if v then take (acts_done mark 1) (Joined row ∷ []) else []) (joins_alike row (settled row refl))

  by_roles : (input : Input) (mark : Mark) (one other : Option Role)
      → (one ≡ Some Retailer → other ≡ Some Retailer)
      → (other ≡ Some Retailer → one ≡ Some Retailer)
      → retailer_items gln (register_of t) input.moment mark input.request
      ≡ retailer_items gln (register_of u) input.moment mark input.request
      → items_as gln (register_of t) one input mark ≡ items_as gln (register_of u) other input mark
  by_roles input mark (Some Retailer) other f g alike =
      alike ∙ ap (λ role. items_as gln (register_of u) role input mark) (sym (f refl))
  by_roles input mark (Some Supplier) (Some Retailer) f g alike = let both : Some Supplier ≡ Some Retailer = g refl in cc
  by_roles input mark (Some Supplier) (Some Supplier) f g alike = refl
  by_roles input mark (Some Supplier) None f g alike = refl
  by_roles input mark None (Some Retailer) f g alike = let both : None ≡ Some Retailer = g refl in cc
  by_roles input mark None (Some Supplier) f g alike = refl
  by_roles input mark None None f g alike = refl

  input_alike : (input : Input) (mark : Mark) (inputs : Inputs)
      → Settled gln t u ((input, mark) ∷ inputs)
      → items_of_input gln t input mark ≡ items_of_input gln u input mark
  input_alike input mark inputs settled =
      by_roles input mark (role_of (register_of t) input.caller input.key) (role_of (register_of u) input.caller input.key)
      (retailer_stays t u input.caller input.key there hubs)
      (retailer_stays u t input.caller input.key here (sym hubs))
      (requests_alike input.moment mark input.request (λ row asks. elim settled [
        | inl both ↦ inl both
        | inr nobody ↦ inr (nobody.0 row asks)
      ]))

pub same_items : (gln : List ℕ) (inputs : Inputs) (t u : Tables)
    → SoundHub t
    → SoundHub u
    → u.hubs ≡ t.hubs
    → Settled gln t u inputs
    → items gln t inputs ≡ items gln u inputs
same_items gln [] t u here there hubs settled = refl
same_items gln ((input, mark) ∷ inputs) t u here there hubs settled =
    let one = step_goes t here input mark in
    let other = step_goes u there input mark in
    λ i. input_alike gln t u here there hubs input mark inputs settled i
    ++ same_items gln inputs (shared_step t input mark).1 (shared_step u input mark).1 one.sound other.sound
    (other.hubs ∙ hubs ∙ sym one.hubs) (elim settled [
      | inl both ↦ inl ((both.0.0, one.stays gln both.0.0 both.0.1), (both.1.0, other.stays gln both.1.0 both.1.1))
      | inr nobody ↦ inr nobody.1
    ]) i

-- A run with a join of another supplier, and without it.
module _ (gln : List ℕ) (t : Tables) (before later : Inputs) (input : Input) (mark : Mark) (row : SupplierRow)
    (here : SoundHub t) (other : IsOther gln t) (apart : StandsApart gln (shared_run t before).1 input row later) where
  abbrev with_it : Inputs
  with_it = before ++ (input, mark) ∷ later

  abbrev when : Tables
  when = (shared_run t before).1

  same_items_without : items gln t with_it ≡ items gln t (before ++ later)
  same_items_without =
      let sound = (run_goes before t here).sound in
      let step = step_goes when sound input mark in
      let rest = same_items gln later when (shared_step when input mark).1 sound step.sound step.hubs (elim apart.settled [
        | inl known ↦ inl (known, (known.0, step.stays gln known.0 known.1))
        | inr nobody ↦ inr nobody
      ]) in
      items_after gln t before ((input, mark) ∷ later)
      ∙ ap (λ now. items gln t before ++ (now ++ items gln (shared_step when input mark).1 later))
      (another_joins gln when input mark row apart.asks apart.caller apart.other)
      ∙ ap (λ rest. items gln t before ++ rest) (sym rest)
      ∙ sym (items_after gln t before later)

  pub seen_without : view gln (shared_run t with_it).1 ≡ view gln (shared_run t (before ++ later)).1
  seen_without =
      (whole_run gln with_it t here other).seen
      ∙ ap (λ all. (alone gln all t).1) same_items_without
      ∙ sym (whole_run gln (before ++ later) t here other).seen

  pub told_without : replies_to gln with_it (shared_run t with_it).0 ≡ replies_to gln (before ++ later) (shared_run t (before ++ later)).0
  told_without =
      (whole_run gln with_it t here other).told
      ∙ ap (λ all. (alone gln all t).0) same_items_without
      ∙ sym (whole_run gln (before ++ later) t here other).told
