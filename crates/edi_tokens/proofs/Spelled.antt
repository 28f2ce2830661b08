-- What was lent is what a front of the text spells.
use Rattle.std.proofs.Common.{◌≡◌, ℕ, List, [], ◌∷◌, ◌++◌, Option, None, refl, sym, ap, subst, ◌∙◌, append_assoc}
use Rattle.std.proofs.lemmas.List.{append-nil}
use Rattle.edi_segments.specs.declared.segment.Service.{Service}
use Rattle.edi_segments.specs.declared.segment.Segment.{Segment}
use Rattle.edi_tokens.specs.declared.lender.Lender.{Lender}
use Rattle.edi_segments.specs.Service.{usual, una_tag}
use Rattle.edi_segments.specs.Spelling.{SpellsWhole, LineEnds}
use Rattle.edi_segments.specs.Reading.{BytePlace, Outside, InService, InTag, InData, Released, start}
use Rattle.edi_tokens.specs.Fault.{EndsIn, EndsAt}
use Rattle.edi_segments.specs.Machine.{reading_of}
use Rattle.edi_tokens.specs.Lender.{Fed}
use Rattle.edi_tokens.proofs.Steps.{Runs, run_leads}
use Rattle.edi_tokens.proofs.Sound.{start_ends}

abbrev pub HasWhole : List ℕ → Service → List Segment → Type 0
HasWhole text s segments = (front rest : List ℕ) × (text ≡ front ++ rest) × SpellsWhole front s segments

no_segments : (before : List ℕ) → LineEnds before → SpellsWhole before usual []
no_segments before ends =
    record { advice = None; body = []; tail = before; text_is = refl; advises = (refl, tt); body_spells = refl; tail_is = ends }

whole_at : (text : List ℕ) (s : Service) (segments : List Segment) (place : BytePlace) → EndsAt text s segments place
    → HasWhole text s segments
whole_at text s segments (Outside fresh) e = (text, [], sym (append-nil text), e.whole)
whole_at text s segments (InService six) e = (
  e.before,
  una_tag ++ six,
  e.text_is,
  subst (λ (l : List Segment). SpellsWhole e.before s l) (sym e.none_yet)
      (subst (λ (t : Service). SpellsWhole e.before t []) (sym e.service_is) (no_segments e.before e.before_is)),
)
whole_at text s segments (InTag fresh tag) e = (e.before, tag, e.text_is, e.before_ends.whole)
whole_at text s segments (InData o) e = (e.before, e.segment, e.text_is, e.whole)
whole_at text s segments (Released o) e =
    let f = e.front_ends in (
      f.before,
      f.segment ++ e.release ∷ [],
      e.text_is ∙ ap (λ l. l ++ e.release ∷ []) f.text_is ∙ append_assoc f.before f.segment (e.release ∷ []),
      f.whole,
    )

pub lent_spelled : (known : Option (List ℕ)) (all : List ℕ) (lent : List Segment) (f : Lender) → Fed known all lent f
    → HasWhole all f.machine.service lent
lent_spelled known all lent f fed =
    let ends : EndsIn fed.taken (reading_of lent f.machine) =
    subst (Runs fed.taken) fed.read_as (run_leads [] fed.taken start start_ends) in
    let whole = whole_at fed.taken f.machine.service lent (reading_of lent f.machine).place ends in (
      whole.0,
      whole.1 ++ (f.piece ++ fed.left),
      fed.all_is ∙ ap (λ l. l ++ (f.piece ++ fed.left)) whole.2 ∙ append_assoc whole.0 whole.1 (f.piece ++ fed.left),
      whole.3,
    )
