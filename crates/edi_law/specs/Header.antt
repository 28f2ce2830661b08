-- Defines what a valid header of a message is: its type, its beginning, its function, its date and its parties.
use Rattle.std.specs.Prelude.{◌≡◌, ℕ, true, false, List, ◌∷◌, codes, Option}
use Rattle.gs1_ids.specs.Gln.{IsGln}
use Rattle.edi_segments.specs.declared.segment.Segment.{Segment}
use Rattle.edi_envelope.specs.Segments.{has_tag, component}
use Rattle.edi_envelope.specs.declared.interchange.RawMessage.{RawMessage}
use Rattle.edi_law.specs.Parts.{HasNone, OfHeader, OfOnly, OneOrNone}
use Rattle.edi_law.specs.Segments.{says}
use Rattle.edi_law.specs.Values.{IsDocumentNumber, IsDate}

-- the message is of this type, in the UN directory D.01B
pub record IsOfType (type : List ℕ) (message : RawMessage) : Type 0 where
  pub type_is : message.kind ≡ type
  pub version_is : message.version ≡ codes "D"
  pub release_is : message.release ≡ codes "01B"
  pub agency_is : message.agency ≡ codes "UN"

-- BGM follows UNH and appears nowhere else, with this code and this document number, which is valid
pub record HasBeginning (code : List ℕ) (message : List Segment) (number : List ℕ) : Type 0 where
  pub unh : Segment
  pub bgm : Segment
  pub rest : List Segment
  pub place : message ≡ unh ∷ bgm ∷ rest
  pub is_bgm : has_tag (codes "BGM") bgm ≡ true
  pub first_is_none : has_tag (codes "BGM") unh ≡ false
  pub none_later : HasNone (has_tag (codes "BGM")) rest
  pub code_is : component bgm 0 0 ≡ code
  pub number_is : component bgm 1 0 ≡ number
  pub number_right : IsDocumentNumber number

-- the segment after UNH has this message function
pub record HasFunction (message : List Segment) (function : List ℕ) : Type 0 where
  pub unh : Segment
  pub bgm : Segment
  pub rest : List Segment
  pub place : message ≡ unh ∷ bgm ∷ rest
  pub function_is : component bgm 2 0 ≡ function

-- the header has exactly one document date, and the date exists
abbrev pub IsDated : List Segment → Type 0
IsDated message =
    OfHeader (λ header. OfOnly (says (codes "DTM") (codes "137")) header (λ dtm.
    IsDate (component dtm 0 2) (component dtm 0 1))) message

-- a NAD names a party by its GLN, and says that this is a GLN
pub record IsNamed (gln : List ℕ) (nad : Segment) : Type 0 where
  pub gln_is : component nad 1 0 ≡ gln
  pub right : IsGln gln
  pub agency : component nad 1 2 ≡ codes "9"

-- the header has exactly one NAD of the role, which names this party
abbrev pub NamesParty : List ℕ → List Segment → List ℕ → Type 0
NamesParty role message gln = OfHeader (λ header. OfOnly (says (codes "NAD") role) header (IsNamed gln)) message

-- the header has no NAD with BY, or exactly one, which names the buyer
abbrev pub NamesBuyer : List Segment → Option (List ℕ) → Type 0
NamesBuyer message buyer = OfHeader (λ header. OneOrNone (says (codes "NAD") (codes "BY")) IsNamed header buyer) message
