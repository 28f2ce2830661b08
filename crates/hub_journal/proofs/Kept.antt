-- Shows what keeping the first bytes of texts one after another keeps.
use Rattle.std.proofs.Common.{◌≡◌, ℕ, zero, suc, ◌+◌, ◌-◌, ◌<◌, ◌≤◌, List, [], ◌∷◌, ◌++◌}
use Rattle.std.proofs.Common.{length, take, drop, get_or, codes, min, refl, ap, sym, ◌∙◌, append_assoc, arith}
use Rattle.std.proofs.lemmas.List.{append-nil, drop_more, length-append, length-take, length-take-le, take-take, take_all}
use Rattle.std.proofs.lemmas.Bool.{le-leb, lt-leb}
use Rattle.hub_journal.specs.Front.{kept, room}
use Rattle.hub_journal.specs.Reply.{cut, longest_reply, shown, shown_byte}

take_of_none : (n : ℕ) → take {A = ℕ} n [] ≡ []
take_of_none zero = refl
take_of_none (suc n) = refl

pub take_append : (n : ℕ) (xs ys : List ℕ) → take n (xs ++ ys) ≡ take n xs ++ take (n - length xs) ys
take_append zero xs ys = let none : zero ≡ zero - length xs = omega arith in ap (λ k. take k ys) none
take_append (suc n) [] ys = let all : suc n ≡ suc n - zero = omega arith in ap (λ k. take k ys) all
take_append (suc n) (x ∷ xs) ys =
    let less : n - length xs ≡ suc n - suc (length xs) = omega arith in
    ap (λ rest. x ∷ rest) (take_append n xs ys ∙ ap (λ k. take n xs ++ take k ys) less)

pub take_min : (n : ℕ) (xs : List ℕ) → take (min (length xs) n) xs ≡ take n xs
take_min zero xs = let none : min (length xs) zero ≡ zero = omega arith in ap (λ k. take k xs) none
take_min (suc n) [] = let none : min zero (suc n) ≡ zero = omega arith in ap (λ k. take {A = ℕ} k []) none
take_min (suc n) (x ∷ xs) =
    let less : min (suc (length xs)) (suc n) ≡ suc (min (length xs) n) = omega arith in
    ap (λ k. take k (x ∷ xs)) less ∙ ap (λ rest. x ∷ rest) (take_min n xs)

-- keeping no bytes changes nothing
pub keep_none : (before : List ℕ) → kept before [] ≡ before
unfolding kept
keep_none before = ap (λ more. before ++ more) (take_of_none (room - length before)) ∙ append-nil before

-- keeping two texts one after another keeps what keeping both together does
pub keep_keep : (before bytes more : List ℕ) → kept (kept before bytes) more ≡ kept before (bytes ++ more)
unfolding kept
keep_keep before bytes more =
    let left = room - length before in
    let size : room - length (before ++ take left bytes) ≡ left - length bytes =
    omega (arith, length-append before (take left bytes), length-take left bytes) in
    append_assoc before (take left bytes) (take (room - length (before ++ take left bytes)) more)
    ∙ ap (λ k. before ++ (take left bytes ++ take k more)) size
    ∙ ap (λ text. before ++ text) (sym (take_append left bytes more))

-- the bytes for which there is room
pub keep_front : (before bytes : List ℕ) (left : ℕ) → length before + left ≡ room
    → kept before bytes ≡ before ++ take (min (length bytes) left) bytes
unfolding kept
keep_front before bytes left is =
    let same : room - length before ≡ left = omega (arith, is) in
    ap (λ k. before ++ take k bytes) same ∙ ap (λ more. before ++ more) (sym (take_min left bytes))

-- everything is kept if there is room
pub keep_all : (before bytes : List ℕ) → length before + length bytes ≤ room → kept before bytes ≡ before ++ bytes
unfolding kept
keep_all before bytes within =
    ap (λ more. before ++ more) (take_all (room - length before) bytes (omega (arith, within)))

-- a text that is kept and then cut
pub cut_kept : (n : ℕ) (text : List ℕ) → n ≤ room → take n (kept [] text) ≡ take n text
unfolding kept
cut_kept n text within =
    let all : n ≤ room - length {A = ℕ} [] = omega (arith, within) in
    take-take n (room - length {A = ℕ} []) text all

-- the first of the remaining bytes is shown, and one fewer remains
pub shown_more : (front next bytes : List ℕ) (i d : ℕ) → i < length bytes → next ≡ kept front (shown_byte (get_or bytes i d))
    → kept next (shown (drop (i + 1) bytes)) ≡ kept front (shown (drop i bytes))
shown_more front next bytes i d within is =
    let rest = shown (drop (i + 1) bytes) in
    ap (λ text. kept text rest) is ∙ keep_keep front (shown_byte (get_or bytes i d)) rest
    ∙ ap (λ left. kept front (shown left)) (sym (drop_more bytes i d within))

-- one more text
pub then_keep : (before bytes now more next : List ℕ) → now ≡ kept before bytes → next ≡ kept now more
    → next ≡ kept before (bytes ++ more)
then_keep before bytes now more next was is = is ∙ ap (λ text. kept text more) was ∙ keep_keep before bytes more

-- a text that was cut because it is too long
pub cut_long : (text : List ℕ) → longest_reply < length (kept [] text)
    → kept (take longest_reply (kept [] text)) (codes "..") ≡ cut text
unfolding kept cut
cut_long text long =
    let some : longest_reply < length text = omega (arith, long, length-take (room - length {A = ℕ} []) text) in
    let size : length (take longest_reply text) ≡ longest_reply = length-take-le longest_reply text (omega (arith, some)) in
    let left : room - length (take longest_reply text) ≡ 400 = omega (arith, size) in
    rw (lt-leb (length text) longest_reply some)
    (ap (λ front. front ++ take (room - length front) (codes "..")) (take-take longest_reply (room - length {A = ℕ} []) text (omega arith))
    ∙ ap (λ n. take longest_reply text ++ take n (codes "..")) left)

-- a text that is short enough
pub cut_short : (text : List ℕ) → length (kept [] text) ≤ longest_reply → kept [] text ≡ cut text
unfolding kept cut
cut_short text short =
    let few : length text ≤ longest_reply = omega (arith, short, length-take (room - length {A = ℕ} []) text) in
    rw (le-leb (length text) longest_reply few) (take_all (room - length {A = ℕ} []) text (omega (arith, few)))
