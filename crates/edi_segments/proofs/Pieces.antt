-- A run over the bytes of a piece, from the front on.
use Rattle.std.proofs.Common.{◌≡◌, ℕ, zero, suc, ◌+◌, ◌-◌, ◌<◌, List, [], ◌∷◌, ◌++◌, length, get_or, take, drop, Result, Ok, Err, sym}
use Rattle.std.proofs.Common.{ap, ◌∙◌, arith}
use Rattle.std.proofs.lemmas.List.{take_more, take-append-drop, drop_more, take_all, length-drop, length-take}
use Rattle.edi_segments.specs.declared.fault.TokenFault.{TokenFault}
use Rattle.edi_segments.specs.Reading.{Reading, run, step, ◌>>=◌}
use Rattle.edi_segments.proofs.Runs.{run-append}

-- a run goes on behind its bytes
pub run_on : (r next : Reading) (xs ys : List ℕ) → run r xs ≡ Ok next → run r (xs ++ ys) ≡ run next ys
run_on r next xs ys e = run-append r xs ys ∙ ap (λ (s : Result Reading TokenFault). s >>= λ n. run n ys) e

-- a single byte
run_one : (r last : Reading) (b : ℕ) → step r b ≡ Ok last → run r (b ∷ []) ≡ Ok last
run_one r last b e = ap (λ (s : Result Reading TokenFault). s >>= λ n. run n []) e

pub one_more : (r next last : Reading) (bytes : List ℕ) (at : ℕ) → at < length bytes → run r (take at bytes) ≡ Ok next
    → step next (get_or bytes at 0) ≡ Ok last → run r (take (at + 1) bytes) ≡ Ok last
one_more r next last bytes at lt so_far one =
    ap (run r) (take_more bytes at 0 lt)
    ∙ run_on r next (take at bytes) (get_or bytes at 0 ∷ []) so_far ∙ run_one next last (get_or bytes at 0) one

-- bytes, parted at one of them
pub split_at : (bytes : List ℕ) (at : ℕ) → at < length bytes → bytes ≡ take at bytes ++ get_or bytes at 0 ∷ drop (at + 1) bytes
split_at bytes at lt = sym (take-append-drop at bytes) ∙ ap (λ (l : List ℕ). take at bytes ++ l) (drop_more bytes at 0 lt)

pub stops_here : (r next : Reading) (bytes : List ℕ) (at : ℕ) (fault : TokenFault) → at < length bytes → run r (take at bytes) ≡ Ok next
    → step next (get_or bytes at 0) ≡ Err fault → run r bytes ≡ Err fault
stops_here r next bytes at fault lt so_far stops =
    ap (run r) (sym (take-append-drop at bytes))
    ∙ run_on r next (take at bytes) (drop at bytes) so_far
    ∙ ap (run next) (drop_more bytes at 0 lt)
    ∙ ap (λ (s : Result Reading TokenFault). s >>= λ n. run n (drop (at + 1) bytes)) stops

pub take_sum : (n m : ℕ) (xs : List ℕ) → take (n + m) xs ≡ take n xs ++ take m (drop n xs)
take_sum zero m xs = let e : zero + m ≡ m = omega arith in ap (λ (k : ℕ). take k xs) e
take_sum (suc n) m [] = take_all (suc n + m) [] (omega arith) ∙ sym (take_all m [] (omega arith))
take_sum (suc n) m (x ∷ xs) =
    let e : suc n + m ≡ suc (n + m) = omega arith in
    ap (λ (k : ℕ). take k (x ∷ xs)) e ∙ ap (λ l. x ∷ l) (take_sum n m xs)

-- how many bytes are left behind so many
pub length-take_drop : (n : ℕ) (xs : List ℕ) → length (take (length xs - n) (drop n xs)) ≡ length xs - n
length-take_drop n xs = omega (arith, length-take (length xs - n) (drop n xs), length-drop n xs)

-- a run that goes on with bytes of what is left
pub some_more : (r next last : Reading) (bytes : List ℕ) (at count : ℕ) → run r (take at bytes) ≡ Ok next
    → run next (take count (take (length bytes - at) (drop at bytes))) ≡ Ok last → run r (take (at + count) bytes) ≡ Ok last
some_more r next last bytes at count so_far more =
    let rest : take (length bytes - at) (drop at bytes) ≡ drop at bytes =
    take_all (length bytes - at) (drop at bytes) (omega (arith, length-drop at bytes)) in
    ap (run r) (take_sum at count bytes)
    ∙ run_on r next (take at bytes) (take count (drop at bytes)) so_far
    ∙ ap (λ (l : List ℕ). run next (take count l)) (sym rest)
    ∙ more
