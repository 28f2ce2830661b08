-- One part put behind another.
use Rattle.std.proofs.Common.{◌≡◌, ℕ, List, [], ◌++◌, Option, Result, Ok, Err, drop, get_or, length}
use Rattle.std.proofs.Common.{◌+◌, ◌<◌, suc, arith, drop-cons, sym, ap, subst, ◌∙◌, append_assoc}
use Rattle.std.proofs.lemmas.List.{append-nil}
use Rattle.std.specs.List.{flat_map}
use Rattle.std.specs.Io.KnownBytes.{Appends}
use Rattle.edi_base.specs.Buffer.{WritesSome, Puts}
use Rattle.edi_base.proofs.Going.{goes_put, goes_cut, goes_as}
use Rattle.http_messages.specs.Response.{Writes}

-- more lies ahead
ahead : {a b : Option (List ℕ)} {waiting left x : List ℕ} (y : List ℕ) → WritesSome a b waiting left [] x
    → WritesSome a b waiting left y (x ++ y)
ahead {a} {b} {waiting} {left} {x} y so_far = record {
  front = so_far.front;
  appends = so_far.appends;
  parts = sym (append_assoc so_far.front left y) ∙ ap (λ l. l ++ y) (ap (λ l. so_far.front ++ l) (sym (append-nil left)) ∙ so_far.parts)
      ∙ append_assoc waiting x y;
}

-- what was put, spelled another way
pub puts_as : {E : Type 0} {x y : List ℕ} (r : Result (Unit {0}) E) (a c : Option (List ℕ)) (waiting later : List ℕ) → x ≡ y
    → Puts r a c waiting later x → Puts r a c waiting later y
puts_as {E} {x} {y} r a c waiting later same put = let P : List ℕ → Type 0 = λ l. Puts r a c waiting later l in subst P same put

-- a part was put, and then another
pub puts_then : {E : Type 0} {a b : Option (List ℕ)} {waiting left x : List ℕ} (y : List ℕ) (r : Result (Unit {0}) E)
    (c : Option (List ℕ)) (later : List ℕ) → WritesSome a b waiting left [] x → Puts r b c left later y → Puts r a c waiting later (x ++ y)
puts_then {E} {a} {b} {waiting} {left} {x} y (Ok done) c later so_far put = goes_put
    (goes_as y (y ++ []) (sym (append-nil y)) (ahead y so_far)) put
puts_then {E} {a} {b} {waiting} {left} {x} y (Err e) c later so_far cut = goes_cut []
    (goes_as y (y ++ []) (sym (append-nil y)) (ahead y so_far)) cut

pub goes_then : {a b c : Option (List ℕ)} {waiting left later x y : List ℕ} → WritesSome a b waiting left [] x
    → WritesSome b c left later [] y
    → WritesSome a c waiting later [] (x ++ y)
goes_then {a} {b} {c} {waiting} {left} {later} {x} {y} so_far put = goes_put (goes_as y (y ++ []) (sym (append-nil y)) (ahead y so_far)) put

-- a front of a part was put, and no more
pub stops : {a b : Option (List ℕ)} {waiting x : List ℕ} (y : List ℕ) → ((rest : List ℕ) × WritesSome a b waiting [] rest x)
    → (rest : List ℕ)
    × WritesSome a b waiting [] rest (x ++ y)
stops {a} {b} {waiting} {x} y cut = (
  cut.0 ++ y,
  record {
    front = cut.1.front;
    appends = cut.1.appends;
    parts = sym (append_assoc cut.1.front cut.0 y) ∙ ap (λ l. l ++ y) cut.1.parts ∙ append_assoc waiting x y;
  },
)

-- a part was put, and then a front of another
pub then_stops : {a b c : Option (List ℕ)} {waiting left x y : List ℕ} → WritesSome a b waiting left [] x →
    ((rest : List ℕ) × WritesSome b c left [] rest y) → (rest : List ℕ) × WritesSome a c waiting [] rest (x ++ y)
then_stops {a} {b} {c} {waiting} {left} {x} {y} so_far cut = goes_cut [] (goes_as y (y ++ []) (sym (append-nil y)) (ahead y so_far)) cut

-- all was flushed
pub writes : {E : Type 0} (a : Option (List ℕ)) (x : List ℕ) (r : Result (Unit {0}) E) (c : Option (List ℕ)) (later : List ℕ) → later ≡ []
    → Puts r a c [] later x → Writes r a c x
writes {E} a x (Ok done) c later none put =
    subst (λ l. Appends a c l) (sym (append-nil put.front) ∙ ap (λ l. put.front ++ l) (sym (append-nil later ∙ none)) ∙ put.parts)
    put.appends
writes {E} a x (Err e) c later none cut = (cut.1.front, cut.0, sym cut.1.parts, cut.1.appends)

-- the part of one item, and those of the items after it
pub flat_map-at : {X : Type 0} (f : X → List ℕ) (xs : List X) (i : ℕ) (d : X) → i < length xs → flat_map f (drop i xs) ≡ f (get_or xs i d)
    ++ flat_map f (drop (i + 1) xs)
flat_map-at f xs i d lt =
    let next : suc i ≡ i + 1 = omega arith in
    ap (flat_map f) (drop-cons xs i d lt) ∙ ap (λ k. f (get_or xs i d) ++ flat_map f (drop k xs)) next
