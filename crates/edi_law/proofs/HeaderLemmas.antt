-- Shows that what is read from a header is what is valid in it.
use Rattle.std.proofs.Common.{◌≡◌, ◌≢◌, ℕ, suc, Bool, true, false, List, [], ◌∷◌, length, filter, inl, inr, refl, sym, ap}
use Rattle.std.proofs.Common.{subst, ◌∙◌, arith}
use Rattle.std.specs.Prelude.{is_some, ◌==◌, codes, Decides}
use Rattle.std.specs.Str.{bytes_eq}
use Rattle.std.proofs.lemmas.Bool.{cases_Bool, true≢false, eqb-true, and_parts, and_from}
use Rattle.std.proofs.lemmas.List.{nil_from_length}
use Rattle.std.proofs.lemmas.Bool.Decides.{Decides-and, Decides-like}
use Rattle.std.proofs.lemmas.Slice.Eq.{bytes_eq-Decides}
use Rattle.gs1_ids.specs.Gln.{IsGln, is_gln}
use Rattle.gs1_ids.proofs.Decided.{Decides-is_key}
use Rattle.edi_segments.specs.declared.segment.Segment.{Segment}
use Rattle.edi_envelope.specs.Segments.{has_tag, component}
use Rattle.edi_envelope.specs.declared.interchange.RawMessage.{RawMessage}
use Rattle.edi_messages.specs.Parts.{only, qualified}
use Rattle.edi_messages.specs.Header.{is_type, begins_as, document_number, function, is_dated, has_date, party_gln, party}
use Rattle.edi_law.specs.Header.{IsOfType, HasBeginning, HasFunction, IsDated, IsNamed, NamesParty}
use Rattle.edi_law.specs.Parts.{HasNone, OfOnly}
use Rattle.edi_law.specs.Segments.{says}
use Rattle.edi_law.specs.Values.{IsDocumentNumber, IsDate}
use Rattle.edi_law.proofs.Deciding.{Decides-is_some, Says, Says-like, Says-if}
use Rattle.edi_law.proofs.PartLemmas.{Decides-header, Says-header, Decides-of_only, Says-of_only, none_passes, passes_none}
use Rattle.edi_law.proofs.ValueLemmas.{Decides-document_number, Decides-date}

pub Decides-type : (type : List ℕ) (message : RawMessage) → Decides (is_type type message) (IsOfType type message)
Decides-type type message =
    Decides-like (is_type type message)
    (λ h. record { type_is = h.0.0.0; version_is = h.0.0.1; release_is = h.0.1; agency_is = h.1 })
    (λ (h : IsOfType type message). (((h.type_is, h.version_is), h.release_is), h.agency_is))
    (Decides-and _ _
    (Decides-and _ _
    (Decides-and _ _ (bytes_eq-Decides message.kind type) (bytes_eq-Decides message.version (codes "D")))
    (bytes_eq-Decides message.release (codes "01B")))
    (bytes_eq-Decides message.agency (codes "UN")))

-- the beginning
abbrev is_bgm : Segment → Bool
is_bgm = has_tag (codes "BGM")

abbrev one_bgm : List Segment → Bool
one_bgm message = length (filter is_bgm message) == 1

alone : (bgm : Segment) (rest : List Segment) → is_bgm bgm ≡ true → one_bgm (bgm ∷ rest) ≡ true → HasNone is_bgm rest
alone bgm rest is one =
    let count : length (bgm ∷ filter is_bgm rest) ≡ 1 = sym (rw is refl) ∙ eqb-true (length (filter is_bgm (bgm ∷ rest))) 1 one in
    passes_none is_bgm rest (nil_from_length (filter is_bgm rest) (omega (arith, count)))

not_both : (n : ℕ) → (suc (suc n) == 1) ≡ true → ⊥
not_both n e = let same = eqb-true (suc (suc n)) 1 e in omega (arith, same)

unh_is_none : (unh bgm : Segment) (rest : List Segment) → is_bgm bgm ≡ true → one_bgm (unh ∷ bgm ∷ rest) ≡ true → is_bgm unh ≡ false
unh_is_none unh bgm rest is one =
    elim (cases_Bool (is_bgm unh)) [
      | inl both ↦ absurd (not_both (length (filter is_bgm rest)) (sym (rw (both, is) refl) ∙ one))
      | inr not_ ↦ not_
    ]

one_behind : (unh bgm : Segment) (rest : List Segment)
    → is_bgm unh ≡ false
    → one_bgm (unh ∷ bgm ∷ rest) ≡ true
    → one_bgm (bgm ∷ rest) ≡ true
one_behind unh bgm rest not_ one = sym (rw not_ refl) ∙ one

begun : (code : List ℕ) (unh bgm : Segment) (rest : List Segment)
    → begins_as code (unh ∷ bgm ∷ rest) ≡ true
    → HasBeginning code (unh ∷ bgm ∷ rest) (component bgm 1 0)
begun code unh bgm rest e =
    let number = and_parts _ _ e in
    let code_ = and_parts _ _ number.0 in
    let there = and_parts (is_bgm bgm) (one_bgm (unh ∷ bgm ∷ rest)) code_.0 in
    let not_ = unh_is_none unh bgm rest there.0 there.1 in
    record {
      unh = unh;
      bgm = bgm;
      rest = rest;
      place = refl;
      is_bgm = there.0;
      first_is_none = not_;
      none_later = alone bgm rest there.0 (one_behind unh bgm rest not_ there.1);
      code_is = (bytes_eq-Decides (component bgm 0 0) code).0 code_.1;
      number_is = refl;
      number_right = (Decides-document_number (component bgm 1 0)).0 number.1;
    }

pub HasBeginning-begins_as : (code : List ℕ) (message : List Segment)
    → begins_as code message ≡ true
    → HasBeginning code message (document_number message)
HasBeginning-begins_as code [] e = absurd (true≢false (sym e))
HasBeginning-begins_as code (unh ∷ []) e = absurd (true≢false (sym e))
HasBeginning-begins_as code (unh ∷ bgm ∷ rest) e = begun code unh bgm rest e

begins_there : (code : List ℕ) (unh bgm : Segment) (rest : List Segment) (number : List ℕ)
    → is_bgm bgm ≡ true
    → is_bgm unh ≡ false
    → HasNone is_bgm rest
    → component bgm 0 0 ≡ code
    → component bgm 1 0 ≡ number
    → IsDocumentNumber number
    → begins_as code (unh ∷ bgm ∷ rest) ≡ true
begins_there code unh bgm rest number is not_ none code_ number_ right =
    let one : one_bgm (unh ∷ bgm ∷ rest) ≡ true = rw (not_, is) (rw (none_passes is_bgm rest none) refl) in
    and_from _ _
    (and_from _ _ (and_from _ _ is one) ((bytes_eq-Decides (component bgm 0 0) code).1 code_))
    ((Decides-document_number (component bgm 1 0)).1 (subst IsDocumentNumber (sym number_) right))

pub begins_as-from_HasBeginning : (code : List ℕ) (message : List Segment) (number : List ℕ)
    → HasBeginning code message number
    → begins_as code message ≡ true
begins_as-from_HasBeginning code message number h =
    ap (begins_as code) h.place
    ∙ begins_there code h.unh h.bgm h.rest number h.is_bgm h.first_is_none h.none_later h.code_is h.number_is h.number_right

pub document_number-from_HasBeginning : (code : List ℕ) (message : List Segment) (number : List ℕ)
    → HasBeginning code message number
    → document_number message ≡ number
document_number-from_HasBeginning code message number h = ap document_number h.place ∙ h.number_is

pub Decides-begins : (code : List ℕ) (message : List Segment)
    → Decides (begins_as code message) ((number : List ℕ) × HasBeginning code message number)
Decides-begins code message =
    ((λ e. (document_number message, HasBeginning-begins_as code message e)), (λ h. begins_as-from_HasBeginning code message h.0 h.1))

-- the function
function_there : (message : List Segment) (code : List ℕ) → ([] ≢ code) → function message ≡ code → HasFunction message code
function_there [] code some e = absurd (some e)
function_there (unh ∷ []) code some e = absurd (some e)
function_there (unh ∷ bgm ∷ rest) code some e = record { unh = unh; bgm = bgm; rest = rest; place = refl; function_is = e }

pub function-from_HasFunction : (message : List Segment) (code : List ℕ) → HasFunction message code → function message ≡ code
function-from_HasFunction message code h = ap function h.place ∙ h.function_is

pub Decides-function : (message : List Segment) (code : List ℕ)
    → ([] ≢ code)
    → Decides (bytes_eq (function message) code) (HasFunction message code)
Decides-function message code some =
    Decides-like (bytes_eq (function message) code) (function_there message code some)
    (function-from_HasFunction message code) (bytes_eq-Decides (function message) code)

-- the date
pub Decides-dated : (message : List Segment) → Decides (has_date message) (IsDated message)
Decides-dated =
    Decides-header (λ part. is_dated (only (qualified (codes "DTM") (codes "137") part))) _
    (Decides-of_only (says (codes "DTM") (codes "137")) is_dated (λ dtm. IsDate (component dtm 0 2) (component dtm 0 1))
    refl (λ dtm. Decides-date (component dtm 0 2) (component dtm 0 1)))

-- the parties
pub Says-named : (nad : Segment) → Says (party_gln nad) (λ gln. IsNamed gln nad)
Says-named nad =
    let right = Decides-and (is_gln (component nad 1 0)) (bytes_eq (component nad 1 2) (codes "9"))
    (Decides-is_key 13 (component nad 1 0)) (bytes_eq-Decides (component nad 1 2) (codes "9")) in
    Says-like (party_gln nad)
    (λ gln. (IsGln (component nad 1 0) × (component nad 1 2 ≡ codes "9")) × (component nad 1 0 ≡ gln))
    (λ gln. IsNamed gln nad)
    (λ gln h. record { gln_is = h.1; right = subst IsGln h.1 h.0.0; agency = h.0.1 })
    (λ gln h. ((subst IsGln (sym h.gln_is) h.right, h.agency), h.gln_is))
    (Says-if _ _ (component nad 1 0) right)

pub Says-party : (role : List ℕ) (message : List Segment) → Says (party role message) (NamesParty role message)
Says-party role message =
    Says-header _ (λ gln header. OfOnly (says (codes "NAD") role) header (IsNamed gln))
    (Says-of_only (says (codes "NAD") role) party_gln IsNamed Says-named) message

pub Decides-party : (role : List ℕ) (message : List Segment)
    → Decides (is_some (party role message)) ((gln : List ℕ) × NamesParty role message gln)
Decides-party role message = Decides-is_some (party role message) (NamesParty role message) (Says-party role message)
