-- Shows that a mailbox's list follows from its first entries, and joins the parts of an entry's interchange.
use Rattle.std.proofs.Common.{◌≡◌, ℕ, zero, suc, ◌+◌, min, map, refl, List, [], ◌∷◌, ◌++◌}
use Rattle.std.proofs.Common.{length, take, nat_lt, cond, codes, sym, ap, ap₂, ◌∙◌}
use Rattle.std.proofs.Common.{append_assoc, length-take, arith}
use Rattle.std.specs.List.{flat_map}
use Rattle.std.proofs.lemmas.Bool.Decides.{nat_tests}
use Rattle.std.proofs.lemmas.List.{take-take}
use Rattle.hub_tables.specs.declared.rows.MailRow.{MailRow}
use Rattle.hub_store.specs.Heads.{head_of}
use Rattle.hub_store.specs.declared.mail.MailHead.{MailHead}
use Rattle.hub_law.specs.MailText.{entry_line, list_limit, list_text}
use Rattle.hub_texts.specs.Heads.{head_line}
use Rattle.hub_law.specs.Widths.{line}

more_known : (n : ℕ) → nat_lt list_limit (min (list_limit + 1) n) ≡ nat_lt list_limit n
more_known n = grind (arith, nat_tests)

-- the lines of the first entries, from what a list shows of them
lines_of_first : (n : ℕ) (all : List MailRow) → flat_map head_line (take n (map head_of all)) ≡ flat_map entry_line (take n all)
lines_of_first zero all = refl
lines_of_first (suc n) [] = refl
lines_of_first (suc n) (entry ∷ all) = ap (λ rest. entry_line entry ++ rest) (lines_of_first n all)

length_heads : (all : List MailRow) → length (map head_of all) ≡ length all
length_heads [] = refl
length_heads (entry ∷ all) = ap suc (length_heads all)

-- what is shown of the first entries, one more than the list's limit, determines the list
pub list_of_first : (all : List MailRow) (heads : List MailHead) → take (list_limit + 1) (map head_of all) ≡ heads
    → flat_map head_line (take list_limit heads)
    ++ line ((cond (nat_lt list_limit (length heads)) (codes "more") (codes "end")) ∷ [])
    ≡ list_text all
unfolding list_text
list_of_first all heads h =
    let front : take list_limit heads ≡ take list_limit (map head_of all) =
    ap (take list_limit) (sym h) ∙ take-take list_limit (list_limit + 1) (map head_of all) (omega arith) in
    let more : nat_lt list_limit (length heads) ≡ nat_lt list_limit (length all) =
    ap (λ xs. nat_lt list_limit (length xs)) (sym h)
    ∙ ap (nat_lt list_limit) (length-take (list_limit + 1) (map head_of all))
    ∙ more_known (length (map head_of all))
    ∙ ap (nat_lt list_limit) (length_heads all) in
    ap₂ (λ lines v. lines ++ line ((cond v (codes "more") (codes "end")) ∷ []))
    (ap (flat_map head_line) front ∙ lines_of_first list_limit all) more

-- the parts of an entry's interchange one after another
pub parts_of_mail : (u a h b o d e t f n g body x : List ℕ)
    → (((u ++ (a ++ h ++ b ++ o ++ b)) ++ (d ++ e ++ t ++ f ++ n ++ g)) ++ body) ++ (x ++ n ++ g)
    ≡ u ++ (a ++ h ++ b ++ o ++ b ++ d ++ e ++ t ++ f ++ n ++ g ++ body ++ x ++ n ++ g)
parts_of_mail u a h b o d e t f n g body x = simp append_assoc
