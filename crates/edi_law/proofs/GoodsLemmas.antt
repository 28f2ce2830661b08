-- Provides what the proofs for despatch advices and receiving advices share.
use Rattle.std.proofs.Common.{◌≡◌, ℕ, Bool, List, [], ◌∷◌, map, Option, refl, sym, ap, subst, ◌∙◌}
use Rattle.std.specs.Prelude.{codes, Decides}
use Rattle.std.specs.List.{AllZip}
use Rattle.std.proofs.lemmas.Bool.Decides.{Decides-and}
use Rattle.edi_segments.specs.declared.segment.Segment.{Segment}
use Rattle.edi_messages.specs.Header.{party_gln}
use Rattle.edi_messages.specs.Parts.{header}
use Rattle.edi_goods.specs.Parties.{has_parties, has_buyer_or_none, buyer}
use Rattle.edi_law.specs.Header.{NamesParty, NamesBuyer, IsNamed}
use Rattle.edi_law.specs.Parts.{OneOrNone}
use Rattle.edi_law.specs.Segments.{says}
use Rattle.edi_law.proofs.HeaderLemmas.{Decides-party, Says-named}
use Rattle.edi_law.proofs.PartLemmas.{at_header, IsHeader-header, found-from_OneOrNone, Decides-one_or_none}

abbrev names_buyer : Segment → Bool
names_buyer = says (codes "NAD") (codes "BY")

pub buyer-from_NamesBuyer : (message : List Segment) (o : Option (List ℕ)) → NamesBuyer message o → buyer message ≡ o
buyer-from_NamesBuyer message o h =
    found-from_OneOrNone names_buyer party_gln IsNamed Says-named (header message) o
    (at_header (λ part. OneOrNone names_buyer IsNamed part o) message h)

pub NamesBuyer-buyer : (message : List Segment) (o : Option (List ℕ)) → NamesBuyer message o → NamesBuyer message (buyer message)
NamesBuyer-buyer message o h = subst (NamesBuyer message) (sym (buyer-from_NamesBuyer message o h)) h

Decides-buyer : (message : List Segment) → Decides (has_buyer_or_none message) ((o : Option (List ℕ)) × NamesBuyer message o)
Decides-buyer message =
    let d = Decides-one_or_none names_buyer party_gln IsNamed Says-named (header message) in (
      (λ e. let h = d.0 e in (h.0, record { header = header message; is_header = IsHeader-header message; is = h.1 })),
      (λ h. d.1 (h.0, at_header (λ part. OneOrNone names_buyer IsNamed part h.0) message h.1)),
    )

pub Decides-parties : (message : List Segment)
    → Decides (has_parties message)
    (((o : Option (List ℕ)) × NamesBuyer message o) × ((supplier : List ℕ) × NamesParty (codes "SU") message supplier))
Decides-parties message = Decides-and _ _ (Decides-buyer message) (Decides-party (codes "SU") message)

-- what the parts say, one by one
module _ {A B : Type 0} (f : A → B) (Is : A → B → Type 0) (is : (a : A) (b : B) → Is a b → f a ≡ b) where
  pub zip_is : (xs : List A) (ys : List B) → AllZip Is xs ys → map f xs ≡ ys
  zip_is [] [] h = refl
  zip_is [] (y ∷ ys) h = absurd h
  zip_is (x ∷ xs) [] h = absurd h
  zip_is (x ∷ xs) (y ∷ ys) h = ap (λ one. one ∷ map f xs) (is x y h.0) ∙ ap (λ others. y ∷ others) (zip_is xs ys h.1)
