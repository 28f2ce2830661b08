-- The sums of articles on the way along amounts.
use Rattle.std.proofs.Common.{◌≡◌, ℕ, zero, suc, ◌+◌, ◌<◌, ◌≤◌, List, [], ◌∷◌, length, get_or, drop, true, false, Bool}
use Rattle.std.proofs.Common.{◌&&◌, cond, if◌then◌else◌, nat_le, Option, Some, refl, sym, ap, ◌∙◌, arith}
use Rattle.std.specs.List.{list_all}
use Rattle.std.specs.Option.{unwrap_or}
use Rattle.std.specs.Str.{bytes_eq}
use Rattle.std.proofs.lemmas.Bool.{le-leb, lt-leb}
use Rattle.std.proofs.Math.Bool.{and-false}
use Rattle.std.proofs.lemmas.List.{drop_more}
use Rattle.std.proofs.lemmas.Slice.Eq.{bytes_eq-Decides}
use Rattle.edi_base.specs.Limits.{greatest}
use Rattle.edi_goods.specs.Sums.{sum_of, sums_within}
use Rattle.edi_goods.specs.declared.sums.Amount.{Amount}

fails_at : {X : Type 0} (p : X → Bool) (xs : List X) (i : ℕ) (d : X) → i < length xs → p (get_or xs i d) ≡ false → list_all p xs ≡ false
fails_at p [] i d lt h = absurd (omega arith)
fails_at p (x ∷ xs) zero d lt h = ap (λ b. b && list_all p xs) h
fails_at p (x ∷ xs) (suc i) d lt h = ap (λ b. p x && b) (fails_at p xs i d (omega arith) h) ∙ and-false (p x)

holds_everywhere : {X : Type 0} (p : X → Bool) (xs : List X) → ((x : X) → p x ≡ true) → list_all p xs ≡ true
holds_everywhere p [] h = refl
holds_everywhere p (x ∷ xs) h = rw (h x) (holds_everywhere p xs h)

-- the sum of an article is the one so far, and that of the rest
abbrev pub IsPart : (List ℕ → ℕ) → List Amount → List Amount → Type 0
IsPart so_far amounts rest = (article : List ℕ) → sum_of article amounts ≡ so_far article + sum_of article rest

-- the rest begins with the amount at its place
pub rest_from : (amounts : List Amount) (i : ℕ) (amount : Amount)
    → i < length amounts
    → amount ≡ get_or amounts i amount
    → drop i amounts ≡ amount ∷ drop (i + 1) amounts
rest_from amounts i amount within at = drop_more amounts i amount within ∙ ap (λ one. one ∷ drop (i + 1) amounts) (sym at)

-- an article's sum so far that is too great with its next amount
pub too_great : (so_far : List ℕ → ℕ) (amounts : List Amount) (i : ℕ) (amount : Amount)
    → i < length amounts
    → amount ≡ get_or amounts i amount
    → IsPart so_far amounts (drop i amounts)
    → greatest < so_far amount.gtin + amount.quantity
    → false ≡ sums_within amounts
too_great so_far amounts i amount within at part past =
    let whole : sum_of amount.gtin amounts ≡ so_far amount.gtin + (amount.quantity + sum_of amount.gtin (drop (i + 1) amounts)) =
    part amount.gtin ∙ ap (λ rest. so_far amount.gtin + sum_of amount.gtin rest) (rest_from amounts i amount within at)
    ∙ ap (λ same. so_far amount.gtin + ((if same then amount.quantity else 0) + sum_of amount.gtin (drop (i + 1) amounts)))
    ((bytes_eq-Decides amount.gtin amount.gtin).1 refl) in
    sym (fails_at (λ one. nat_le (sum_of one.gtin amounts) greatest) amounts i amount within
    (ap (λ one. nat_le (sum_of one.gtin amounts) greatest) (sym at)
    ∙ lt-leb (sum_of amount.gtin amounts) greatest (omega (arith, whole, past))))

-- no sum so far is too great, and there is no rest
pub all_within : (so_far : List ℕ → ℕ) (amounts : List Amount)
    → IsPart so_far amounts []
    → ((article : List ℕ) → so_far article ≤ greatest)
    → true ≡ sums_within amounts
all_within so_far amounts part bound =
    sym (holds_everywhere (λ one. nat_le (sum_of one.gtin amounts) greatest) amounts
    (λ one. le-leb (sum_of one.gtin amounts) greatest (omega (arith, part one.gtin, bound one.gtin))))

step : (same : Bool) (old : Option ℕ) (sum quantity rest : ℕ)
    → (same ≡ true → sum ≡ unwrap_or old 0 + quantity)
    → unwrap_or old 0 + ((if same then quantity else 0) + rest) ≡ unwrap_or (cond same (Some sum) old) 0 + rest
step true old sum quantity rest h = let grown = h refl in omega (arith, grown)
step false old sum quantity rest h = omega arith

-- one amount more
pub part_next : (old new : List ℕ → Option ℕ) (amounts : List Amount) (i : ℕ) (amount : Amount) (sum : ℕ)
    → i < length amounts
    → amount ≡ get_or amounts i amount
    → ((article : List ℕ) → new article ≡ cond (bytes_eq amount.gtin article) (Some sum) (old article))
    → sum ≡ unwrap_or (old amount.gtin) 0 + amount.quantity
    → IsPart (λ article. unwrap_or (old article) 0) amounts (drop i amounts)
    → IsPart (λ article. unwrap_or (new article) 0) amounts (drop (i + 1) amounts)
part_next old new amounts i amount sum within at becomes grown part article =
    part article ∙ ap (λ rest. unwrap_or (old article) 0 + sum_of article rest) (rest_from amounts i amount within at)
    ∙ step (bytes_eq amount.gtin article) (old article) sum amount.quantity (sum_of article (drop (i + 1) amounts))
    (λ same. grown ∙ ap (λ one. unwrap_or (old one) 0 + amount.quantity) ((bytes_eq-Decides amount.gtin article).0 same))
    ∙ ap (λ value. unwrap_or value 0 + sum_of article (drop (i + 1) amounts)) (sym (becomes article))

bounded : (same : Bool) (old : Option ℕ) (sum : ℕ)
    → sum ≤ greatest
    → unwrap_or old 0 ≤ greatest
    → unwrap_or (cond same (Some sum) old) 0 ≤ greatest
bounded true old sum h k = h
bounded false old sum h k = k

pub bound_next : (old new : List ℕ → Option ℕ) (gtin : List ℕ) (sum : ℕ)
    → ((article : List ℕ) → new article ≡ cond (bytes_eq gtin article) (Some sum) (old article))
    → sum ≤ greatest
    → ((article : List ℕ) → unwrap_or (old article) 0 ≤ greatest)
    → (article : List ℕ)
    → unwrap_or (new article) 0 ≤ greatest
bound_next old new gtin sum becomes within before article =
    rw (becomes article) (bounded (bytes_eq gtin article) (old article) sum within (before article))
