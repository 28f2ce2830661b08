-- Shows that only a party with a GLN is a caller.
use Rattle.std.proofs.Common.{◌≡◌, ℕ, List, [], ◌∷◌, Bool, true, false, Some, None, Err, cond, map, refl, sym, ap, ◌∙◌}
use Rattle.std.specs.List.{list_all}
use Rattle.std.specs.Str.{bytes_eq}
use Rattle.std.proofs.lemmas.Bool.{and_parts, false≢true, false_from_ne_true}
use Rattle.std.proofs.lemmas.Slice.Eq.{bytes_eq-Decides}
use Rattle.std.proofs.lemmas.Option.{none-some}
use Rattle.gs1_ids.specs.Gln.{gln_of, is_gln}
use Rattle.hub_parties.specs.Rows.{RegisterRows, IsRegister, supplier_row, role_of}
use Rattle.hub_parties.specs.declared.row.SupplierRow.{SupplierRow}
use Rattle.http_messages.specs.Head.{Heading}
use Rattle.hub_http.specs.Asked.{by_party, by_role}
use Rattle.hub_http.specs.declared.refusal.Refusal.TheVariants.{Denied}
use Rattle.hub_http.specs.declared.route.Route.{Route}

-- bytes that are not a GLN differ from every GLN
differs : (gln party : List ℕ) → is_gln gln ≡ true → is_gln party ≡ false → bytes_eq gln party ≡ false
differs gln party is none =
    false_from_ne_true (bytes_eq gln party) (λ same. false≢true (sym none ∙ ap is_gln (sym ((bytes_eq-Decides gln party).0 same)) ∙ is))

-- no supplier's row has them
no_row : (suppliers : List SupplierRow) (party : List ℕ)
    → list_all is_gln (map (λ (row : SupplierRow). row.gln) suppliers) ≡ true
    → is_gln party ≡ false
    → supplier_row suppliers party ≡ None
no_row [] party all none = refl
no_row (s ∷ suppliers) party all none =
    let parts = and_parts (is_gln s.gln) (list_all is_gln (map (λ (row : SupplierRow). row.gln) suppliers)) all in
    rw (differs s.gln party parts.0 none) (no_row suppliers party parts.1 none)

-- so nobody calls with them
pub nobody : (register : RegisterRows) (party key : List ℕ) → IsRegister register → is_gln party ≡ false
    → role_of register party key ≡ None
nobody register party key right none =
    let parts = and_parts (is_gln register.hub) _ right.glns_right in
    let others = and_parts (is_gln register.retailer) _ parts.1 in
    let other : bytes_eq register.retailer party ≡ false = differs register.retailer party others.0 none in
    rw (no_row register.suppliers party others.1 none, other) refl

pub denied : (register : RegisterRows) (head : Heading) (route : Route) (party part : List ℕ) (number : ℕ) (key : List ℕ)
    → IsRegister register → is_gln party ≡ false → Err Denied ≡ by_party register head route party part number key
denied register head route party part number key right none =
    ap (by_role head route party part number key) (sym (nobody register party key right none))

-- a text that is not read as a GLN is not one
pub no_gln : (text : List ℕ) → gln_of text ≡ None → is_gln text ≡ false
no_gln text none =
    false_from_ne_true (is_gln text) (λ is. none-some text (sym none ∙ ap (λ (b : Bool). cond b (Some text) None) is))
