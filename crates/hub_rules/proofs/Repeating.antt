-- Shows that what is accepted is remembered, and that what is remembered is repeated.
use Rattle.std.proofs.Common.{◌≡◌, ℕ, Bool, true, false, cond, ◌&&◌, ◌==◌, inl, inr, List, [], ◌∷◌, find, Option}
use Rattle.std.proofs.Common.{Some, None, refl, sym, ◌∙◌, ap, subst, arith}
use Rattle.std.proofs.lemmas.Bool.{and_from}
use Rattle.std.proofs.lemmas.Bool.Decides.{nat_tests}
use Rattle.hub_tables.specs.Cases.{side_letter}
use Rattle.hub_tables.specs.Change.{apply, apply_all}
use Rattle.hub_tables.specs.Rows.{same, remembered_cmp}
use Rattle.hub_tables.specs.Sets.{Has}
use Rattle.hub_tables.specs.State.{remembered_of}
use Rattle.hub_tables.specs.Tables.{Tables, view}
use Rattle.hub_tables.specs.declared.change.Change.{Change}
use Rattle.hub_tables.specs.declared.change.Change.TheVariants.{Remember}
use Rattle.hub_tables.specs.declared.rows.RememberedRow.{RememberedRow}
use Rattle.hub_tables.proofs.Lists.{same_if}
use Rattle.hub_tables.proofs.Members.{none_of, has_put, has_filter}
use Rattle.hub_rules.specs.Judging.{Judge, gives, joined, in_turn}
use Rattle.hub_rules.specs.Sound.{Single, same_reference}
use Rattle.hub_rules.specs.RepeatRules.{Reference, remembered, once, judge_once}
use Rattle.hub_rules.specs.declared.code.Code.TheVariants.{OtherContent}
use Rattle.hub_rules.specs.declared.verdict.Verdict.{Verdict}
use Rattle.hub_rules.specs.declared.verdict.Verdict.TheVariants.{Accept, Refuse}

-- the only row that passes is found
found_single : {X : Type 0} (alike : X → X → Bool) (p : X → Bool) (x : X)
    → ((y : X) → p y ≡ true → alike y x ≡ true)
    → p x ≡ true
    → (xs : List X)
    → Single alike xs
    → Has xs x
    → find p xs ≡ Some x
found_single alike p x tied passes [] single h = absurd h
found_single alike p x tied passes (y ∷ ys) single h =
    elim (p y) as (λ v. p y ≡ v → cond v (Some y) (find p ys) ≡ Some x) [
      | true ↦ λ e. elim h [
        | inl one ↦ ap Some (sym one)
        | inr g ↦ let yes = tied y e in let no = none_of (alike y) ys single.0 x g in absurd (cc)
      ]
      | false ↦ λ e. elim h [
        | inl one ↦ let same_test : p x ≡ p y = ap p one in absurd (cc)
        | inr g ↦ found_single alike p x tied passes ys single.1 g
      ]
    ] refl

-- a row that is remembered stays
has_after : (change : Change) (t : Tables) (row : RememberedRow) → Has t.remembered row → Has (apply change t).remembered row
has_after (Remember r) t row h = has_put remembered_cmp t.remembered r row (inr h)
has_after _ t row h = h

pub has_after_all : (changes : List Change) (t : Tables) (row : RememberedRow)
    → Has t.remembered row
    → Has (apply_all changes t).remembered row
has_after_all [] t row h = h
has_after_all (change ∷ changes) t row h = has_after_all changes (apply change t) row (has_after change t row h)

-- what tables remember of a supplier is found in its view, if its keys occur once
pub found_again : (gln : List ℕ) (t : Tables) (r : Reference) (content : List ℕ)
    → Single same_reference (view gln t).remembered
    → r.supplier ≡ gln
    → Has t.remembered (remembered r content)
    → remembered_of (view gln t) r.side r.control r.message ≡ Some (remembered r content)
found_again gln t r content single whose there =
    found_single same_reference
    (λ row. (row.side == side_letter r.side) && (same row.control r.control && same row.message r.message))
    (remembered r content) (λ row e. e)
    (and_from (side_letter r.side == side_letter r.side) (same r.control r.control && same r.message r.message)
    (grind (arith, nat_tests))
    (and_from (same r.control r.control) (same r.message r.message) (same_if r.control r.control refl)
    (same_if r.message r.message refl)))
    (view gln t).remembered single
    (has_filter (λ row. same row.supplier gln) t.remembered (remembered r content) there (same_if r.supplier gln whose))

once_first : (row : Option RememberedRow) (content : List ℕ) (first : Change) (rest : Verdict) (change : Change)
    (changes : List Change)
    → once row content (joined (first ∷ []) rest) ≡ Accept (change ∷ changes)
    → first ≡ change
once_first None content first (Refuse code) change changes h = cc
once_first None content first (Accept rest) change changes h = cc
once_first (Some row) content first rest change changes h =
    elim (same row.content content) as
    (λ v. ◌≡◌ {A = Verdict} (cond v (Accept []) (Refuse OtherContent)) (Accept (change ∷ changes)) → first ≡ change) [
      | true ↦ λ g. cc
      | false ↦ λ g. cc
    ] h

-- what is accepted with changes is remembered by them
pub accepted_has : (r : Reference) (content : List ℕ) (fresh : Judge) (state t : Tables) (change : Change)
    (changes : List Change)
    → judge_once r content fresh state ≡ Accept (change ∷ changes)
    → Has (apply_all (change ∷ changes) t).remembered (remembered r content)
accepted_has r content fresh state t change changes h =
    let first = once_first (remembered_of state r.side r.control r.message) content (Remember (remembered r content))
    (fresh (apply (Remember (remembered r content)) state)) change changes h in
    subst (λ c. Has (apply_all (c ∷ changes) t).remembered (remembered r content)) first
    (has_after_all changes (apply (Remember (remembered r content)) t) (remembered r content)
    (has_put remembered_cmp t.remembered (remembered r content) (remembered r content) (inl refl)))

-- what is remembered is repeated
pub once_again : (r : Reference) (content : List ℕ) (fresh : Judge) (state : Tables)
    → remembered_of state r.side r.control r.message ≡ Some (remembered r content)
    → judge_once r content fresh state ≡ Accept []
once_again r content fresh state found =
    ap (λ row. once row content (in_turn (gives (Remember (remembered r content) ∷ [])) fresh state)) found
    ∙ ap (λ v. cond v (Accept []) (Refuse OtherContent)) (same_if content content refl)
