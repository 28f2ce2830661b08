-- Shows that each step leaves a sound start with the same hub and retailer, in which each registered supplier still is
-- registered.
use Rattle.std.proofs.Common.{◌≡◌, true, false, ◌&&◌, ◌||◌, if◌then◌else◌, cond, List, [], ◌∷◌, ℕ, map, Option, Some, None, refl, sym}
use Rattle.std.proofs.Common.{◌∙◌, ap, subst}
use Rattle.std.specs.List.{AllByRecursion, list_any}
use Rattle.std.proofs.lemmas.Bool.{or_parts, and_parts}
use Rattle.edi_base.proofs.Twice.{bytes_eq-sym}
use Rattle.edi_base.specs.Seen.{has_twice}
use Rattle.hub_parties.specs.KeyOrder.{Rises}
use Rattle.hub_parties.specs.Rows.{RegisterRows, IsRegister, parties_of, supplier_row, row_of, role_of, role_by}
use Rattle.hub_parties.specs.declared.role.Role.TheVariants.{Retailer}
use Rattle.hub_parties.specs.declared.row.SupplierRow.{SupplierRow}
use Rattle.hub_tables.specs.Change.{apply_all}
use Rattle.hub_tables.specs.Register.{HoldsRegister, has_key, hub_in, suppliers_of, register_of, parties_in, row_at}
use Rattle.hub_tables.specs.Rows.{same, key_cmp, prefix_cmp}
use Rattle.hub_tables.specs.Tables.{Tables}
use Rattle.hub_tables.proofs.Lists.{same_is}
use Rattle.hub_rules.specs.JoinRules.{is_join, judge_join}
use Rattle.hub_rules.specs.Laws.{SoundHub, PartiesStay, JoinedBy}
use Rattle.hub_rules.specs.Sound.{Sound}
use Rattle.hub_rules.specs.declared.verdict.Verdict.TheVariants.{Accept, Refuse}
use Rattle.hub_rules.proofs.Joining.{joined_by}
use Rattle.hub_rules.proofs.Prefixes.{gln_found}
use Rattle.hub_law.specs.Machine.{Inputs, shared_step, shared_run}
use Rattle.hub_law.specs.Mark.{Mark, Whole, StoppedEmpty, StoppedBare, StoppedAfter, replied}
use Rattle.hub_law.specs.Replies.{denied}
use Rattle.hub_law.specs.Requests.{looked_at, from_retailer, answered, join, joined, retailer_request}
use Rattle.hub_law.specs.Told.{Told, act}
use Rattle.hub_requests.specs.declared.reply.Reply.{Reply}
use Rattle.hub_requests.specs.declared.request.Input.{Input}
use Rattle.hub_requests.specs.declared.request.Request.{Request}
use Rattle.hub_requests.specs.declared.request.Request.TheVariants as requests
use Rattle.hub_law.proofs.Acting.{ActStaysSound, suppliers_same, register_same}
use Rattle.hub_law.proofs.Callers.{step_by, is_retailers, step_is, as_retailer}
use Rattle.hub_law.proofs.Retailers.{messages_stay, cancelled_stays}
use Rattle.hub_law.proofs.Steps.{supplier_alike}

pub record KeepsSuppliers (t after : Tables) : Type 0 where
  pub sound : SoundHub after
  pub hubs : after.hubs ≡ t.hubs
  pub stays : (gln : List ℕ) (s : SupplierRow) → row_at gln t ≡ Some s → row_at gln after ≡ Some s

pub goes_same : (t : Tables) → SoundHub t → KeepsSuppliers t t
goes_same t here = record { sound = here; hubs = refl; stays = λ gln s known. known }

goes_on : (t u v : Tables) → KeepsSuppliers t u → KeepsSuppliers u v → KeepsSuppliers t v
goes_on t u v one next = record {
  sound = next.sound;
  hubs = next.hubs ∙ one.hubs;
  stays = λ gln s known. next.stays gln s (one.stays gln s known);
}

pub holds_on : (t after : Tables) → PartiesStay t after → HoldsRegister t → HoldsRegister after
holds_on t after stay holds = record {
  hub = holds.hub;
  one_hub = stay.hubs ∙ holds.one_hub;
  keys_rise = subst (Rises key_cmp) (sym stay.keys) holds.keys_rise;
  prefixes_rise = subst (Rises prefix_cmp) (sym stay.prefixes) holds.prefixes_rise;
  prefixes_had = subst (λ keys. AllByRecursion (λ row. has_key keys row.supplier ≡ true) after.prefixes) (sym stay.keys)
      (subst (AllByRecursion (λ row. has_key t.keys row.supplier ≡ true)) (sym stay.prefixes) holds.prefixes_had);
  right = subst IsRegister (sym (register_same t after stay)) holds.right;
}

goes_kept : (t after : Tables) → SoundHub t → ActStaysSound (suppliers_of t) t after → KeepsSuppliers t after
goes_kept t after here kept =
    let suppliers = suppliers_same t after kept.parties in
    record {
      sound = record {
        register = holds_on t after kept.parties here.register;
        sound = subst (λ suppliers. Sound suppliers after) (sym suppliers) kept.sound;
      };
      hubs = kept.parties.hubs;
      stays = λ gln s known. ap (λ suppliers. supplier_row suppliers gln) suppliers ∙ known;
    }

goes_joined : (row : SupplierRow) (t after : Tables) → JoinedBy row t after → KeepsSuppliers t after
goes_joined row t after by = record { sound = by.sound; hubs = by.hubs; stays = by.stays }

module _ (t : Tables) (here : SoundHub t) where
  abbrev R : RegisterRows
  R = register_of t

  -- what is done unless it was stopped
  unless_goes : (mark : Mark) (after : Told × Tables) → KeepsSuppliers t after.1 → KeepsSuppliers t (answered mark after t).1
  unless_goes Whole after goes = goes
  unless_goes StoppedEmpty after goes = goes_same t here
  unless_goes StoppedBare after goes = goes_same t here
  unless_goes (StoppedAfter k) after goes = goes_same t here

  pub join_goes : (row : SupplierRow) → is_join row ≡ true → KeepsSuppliers t (join R row t).1
  join_goes row may = elim (judge_join R row) as (λ v. judge_join R row ≡ v → KeepsSuppliers t (act v t).1) [
    | Accept changes ↦ λ e. goes_joined row t (apply_all changes t) (joined_by row t here may changes e)
    | Refuse code ↦ λ e. goes_same t here
  ] refl

  joined_goes : (mark : Mark) (row : SupplierRow) → KeepsSuppliers t (joined R mark row t).1
  joined_goes mark row = elim (is_join row) as (λ v. is_join row ≡ v
      → KeepsSuppliers t (if v then answered mark (join R row t) t else replied mark denied t).1) [
        | true ↦ λ may. unless_goes mark (join R row t) (join_goes row may)
        | false ↦ λ never. goes_same t here
      ] refl

  pub retailer_goes : (moment : ℕ) (mark : Mark) (request : Request) → KeepsSuppliers t (retailer_request R moment mark request t).1
  retailer_goes moment mark (requests.Upload bytes) =
      goes_kept t _ here (messages_stay R here.register.right.prefixes_free
      (looked_at moment mark (from_retailer (parties_of R) bytes)) t here.sound)
  retailer_goes moment mark (requests.MailAfter number) = goes_same t here
  retailer_goes moment mark (requests.MailItem number) = goes_same t here
  retailer_goes moment mark (requests.MailTaken number) = goes_same t here
  retailer_goes moment mark requests.Status = goes_same t here
  retailer_goes moment mark (requests.StatusOf gln) = goes_same t here
  retailer_goes moment mark (requests.Cancel c) =
      goes_kept t _ here (cancelled_stays R here.register.right.prefixes_free mark c t here.sound)
  retailer_goes moment mark (requests.Join row) = joined_goes mark row

  goes_by : (input : Input) (mark : Mark) (o : Option SupplierRow)
      → supplier_row (suppliers_of t) input.caller ≡ o
      → KeepsSuppliers t (step_by R o input mark t).1
  goes_by input mark (Some w) h =
      let whose = gln_found (suppliers_of t) input.caller w h in
      let alike = supplier_alike (suppliers_of t) here.register.right.prefixes_free (parties_of R) w
      (ap (supplier_row (suppliers_of t)) whose ∙ h) input mark t here.sound in
      goes_kept t _ here (record { sound = alike.apart.sound; parties = alike.apart.parties })
  goes_by input mark None h =
      elim (is_retailers R input) as (λ v. KeepsSuppliers t
      (if v then retailer_request R input.moment mark input.request t else replied mark denied t).1) [
        | true ↦ retailer_goes input.moment mark input.request
        | false ↦ goes_same t here
      ]

  pub step_goes : (input : Input) (mark : Mark) → KeepsSuppliers t (shared_step t input mark).1
  step_goes input mark =
      subst (λ (after : Reply × Tables). KeepsSuppliers t after.1) (sym (step_is R input mark t))
      (goes_by input mark (supplier_row (suppliers_of t) input.caller) refl)

pub run_goes : (inputs : Inputs) (t : Tables) → SoundHub t → KeepsSuppliers t (shared_run t inputs).1
run_goes [] t here = goes_same t here
run_goes ((input, mark) ∷ inputs) t here =
    let one = step_goes t here input mark in
    goes_on t (shared_step t input mark).1 (shared_run t ((input, mark) ∷ inputs)).1 one
    (run_goes inputs (shared_step t input mark).1 one.sound)

pub parties_stay : (t after : Tables) → KeepsSuppliers t after → parties_in after ≡ parties_in t
parties_stay t after goes = λ i. record { hub = (hub_in (goes.hubs i)).hub; retailer = (hub_in (goes.hubs i)).retailer }

-- the retailer is not a supplier
pub retailer_has_no_row : (register : RegisterRows) → IsRegister register → supplier_row register.suppliers register.retailer ≡ None
retailer_has_no_row register right =
    let texts = map (λ (s : SupplierRow). s.gln) register.suppliers in
    let rest = or_parts (list_any (same register.hub) (register.retailer ∷ texts))
    (list_any (same register.retailer) texts || has_twice texts) right.glns_apart in
    none register.suppliers (or_parts (list_any (same register.retailer) texts) (has_twice texts) rest.1).0
  where
    none : (suppliers : List SupplierRow)
        → list_any (same register.retailer) (map (λ (s : SupplierRow). s.gln) suppliers) ≡ false
        → supplier_row suppliers register.retailer ≡ None
    none [] h = refl
    none (s ∷ suppliers) h =
        let parts = or_parts (same register.retailer s.gln)
        (list_any (same register.retailer) (map (λ (s : SupplierRow). s.gln) suppliers)) h in
        ap (λ v. cond v (Some s) (supplier_row suppliers register.retailer)) (bytes_eq-sym s.gln register.retailer ∙ parts.0)
        ∙ none suppliers parts.1

-- a caller that is the retailer is so in all sound tables of this hub
pub retailer_stays : (t after : Tables) (caller key : List ℕ)
    → SoundHub after
    → after.hubs ≡ t.hubs
    → role_of (register_of t) caller key ≡ Some Retailer
    → role_of (register_of after) caller key ≡ Some Retailer
retailer_stays t after caller key there hubs role =
    let tests = as_retailer (register_of t) (row_of (register_of t) caller) caller key role in
    let now : (same (register_of after).retailer caller && same (register_of after).retailer_key key) ≡ true =
    ap (λ rows. same (hub_in rows).retailer caller && same (hub_in rows).key key) hubs ∙ tests in
    let whose = same_is (register_of after).retailer caller
    (and_parts (same (register_of after).retailer caller) (same (register_of after).retailer_key key) now).0 in
    let none : row_of (register_of after) caller ≡ None =
    ap (supplier_row (suppliers_of after)) (sym whose) ∙ retailer_has_no_row (register_of after) there.register.right in
    ap (λ o. role_by (register_of after) o caller key) none
    ∙ ap (λ v. if v then Some Retailer else None) now
