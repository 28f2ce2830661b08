-- Follows bytes to a sink, one part after another.
use Rattle.std.proofs.Common.{◌≡◌, ℕ, List, [], ◌++◌, take, drop, Option, Some, None, Result, Ok, Err, refl, sym, ap, subst}
use Rattle.std.proofs.Common.{◌∙◌, append_assoc}
use Rattle.std.proofs.lemmas.List.{append-nil, take-append-drop}
use Rattle.std.specs.Prelude.{IsErr}
use Rattle.std.specs.Io.KnownBytes.{Appends, Consumes}
use Rattle.edi_base.specs.Buffer.{WritesSome, Puts}

Appends-nil : (a : Option (List ℕ)) → Appends a a []
Appends-nil None = tt
Appends-nil (Some x) = sym (append-nil x)

Appends-then : (a b c : Option (List ℕ)) (xs ys : List ℕ) → Appends a b xs → Appends b c ys → Appends a c (xs ++ ys)
Appends-then None b c xs ys p q = tt
Appends-then (Some x) None c xs ys p q = absurd p
Appends-then (Some x) (Some y) None xs ys p q = absurd q
Appends-then (Some x) (Some y) (Some z) xs ys p q = q ∙ ap (λ l. l ++ ys) p ∙ append_assoc x xs ys

-- nothing has been put yet
pub goes_none : (a : Option (List ℕ)) (waiting whole : List ℕ) → WritesSome a a waiting waiting whole whole
goes_none a waiting whole = record { front = []; appends = Appends-nil a; parts = refl }

-- one more part was put
pub goes_put : {a b c : Option (List ℕ)} {waiting left later part ahead whole : List ℕ}
    → WritesSome a b waiting left (part ++ ahead) whole
    → WritesSome b c left later [] part
    → WritesSome a c waiting later ahead whole
goes_put {a} {b} {c} {waiting} {left} {later} {part} {ahead} {whole} so_far put = record {
  front = so_far.front ++ put.front;
  appends = Appends-then a b c so_far.front put.front so_far.appends put.appends;
  parts =
      append_assoc so_far.front put.front (later ++ ahead)
      ∙ ap (λ l. so_far.front ++ l) (sym (append_assoc put.front later ahead)
      ∙ ap (λ l. l ++ ahead) (ap (λ l. put.front ++ l) (sym (append-nil later)) ∙ put.parts)
      ∙ append_assoc left part ahead)
      ∙ so_far.parts;
}

-- one more part was begun
pub goes_cut : {a b c : Option (List ℕ)} {waiting left part whole : List ℕ} (ahead : List ℕ)
    → WritesSome a b waiting left (part ++ ahead) whole
    → ((rest : List ℕ) × WritesSome b c left [] rest part)
    → (rest : List ℕ) × WritesSome a c waiting [] rest whole
goes_cut {a} {b} {c} {waiting} {left} {part} {whole} ahead so_far cut = (
  cut.0 ++ ahead,
  record {
    front = so_far.front ++ cut.1.front;
    appends = Appends-then a b c so_far.front cut.1.front so_far.appends cut.1.appends;
    parts =
        append_assoc so_far.front cut.1.front (cut.0 ++ ahead)
        ∙ ap (λ l. so_far.front ++ l)
        (sym (append_assoc cut.1.front cut.0 ahead) ∙ ap (λ l. l ++ ahead) cut.1.parts ∙ append_assoc left part ahead)
        ∙ so_far.parts;
  },
)

-- what is yet to come, written in another way
pub goes_as : {a b : Option (List ℕ)} {waiting left whole : List ℕ} (x y : List ℕ)
    → x ≡ y
    → WritesSome a b waiting left x whole
    → WritesSome a b waiting left y whole
goes_as {a} {b} {waiting} {left} {whole} x y e so_far = subst (λ (l : List ℕ). WritesSome a b waiting left l whole) e so_far

-- what is yet to come, less what was written of it
pub goes_written : {a b c : Option (List ℕ)} {waiting ahead whole : List ℕ} (n : ℕ) (rest : List ℕ)
    → WritesSome a b waiting [] ahead whole
    → Appends b c (take n ahead)
    → rest ≡ drop n ahead
    → WritesSome a c waiting [] rest whole
goes_written {a} {b} {c} {waiting} {ahead} {whole} n rest so_far written e = record {
  front = so_far.front ++ take n ahead;
  appends = Appends-then a b c so_far.front (take n ahead) so_far.appends written;
  parts =
      append_assoc so_far.front (take n ahead) rest
      ∙ ap (λ l. so_far.front ++ l) (ap (λ l. take n ahead ++ l) e ∙ take-append-drop n ahead)
      ∙ so_far.parts;
}

-- the last part was put completely, or begun
pub puts_last : {E : Type 0} {a b : Option (List ℕ)} {waiting left part whole : List ℕ} (r : Result (Unit {0}) E)
    (c : Option (List ℕ)) (later : List ℕ)
    → WritesSome a b waiting left part whole
    → Puts r b c left later part
    → Puts r a c waiting later whole
puts_last {E} {a} {b} {waiting} {left} {part} {whole} (Ok done) c later so_far put =
    goes_put (goes_as part (part ++ []) (sym (append-nil part)) so_far) put
puts_last {E} {a} {b} {waiting} {left} {part} {whole} (Err e) c later so_far cut =
    goes_cut [] (goes_as part (part ++ []) (sym (append-nil part)) so_far) cut

-- a fault after a prefix was written
pub puts_cut : {E : Type 0} {a c : Option (List ℕ)} {waiting whole : List ℕ} (r : Result (Unit {0}) E) (later : List ℕ)
    → IsErr r
    → ((rest : List ℕ) × WritesSome a c waiting [] rest whole)
    → Puts r a c waiting later whole
puts_cut (Ok done) later e cut = absurd cc
puts_cut (Err fault) later e cut = cut

-- what two reads returned, one after the other
pub Consumes-then : (a b c : Option (List ℕ)) (xs ys : List ℕ) → Consumes a b xs → Consumes b c ys → Consumes a c (xs ++ ys)
Consumes-then None b c xs ys p q = tt
Consumes-then (Some x) None c xs ys p q = absurd p
Consumes-then (Some x) (Some y) None xs ys p q = absurd q
Consumes-then (Some x) (Some y) (Some z) xs ys p q = p ∙ ap (λ l. xs ++ l) q ∙ sym (append_assoc xs ys z)
