-- Relates tests and answers to relations: tests that decide one, and answers that exist exactly if one holds.
use Rattle.std.proofs.Common.{◌≡◌, ℕ, ◌≤◌, Bool, true, false, cond, List, [], ◌∷◌, Option, Some, None, refl, sym, ap, subst, ◌∙◌}
use Rattle.std.specs.Prelude.{nat_le, ◌||◌, ◌&&◌, ◌≢◌, not, ⊤, is_some, option_and_then, unwrap_or, Decides}
use Rattle.std.specs.List.{list_all, list_any, AllByRecursion}
use Rattle.std.proofs.lemmas.Bool.{leb-true, le-leb, true≢false, or_parts, or_from}
use Rattle.std.proofs.lemmas.Bool.Decides.{Decides-and}

-- the answer is this value exactly if the relation holds for it
abbrev pub Says : {X : Type 0} → Option X → (X → Type 0) → Type 0
Says {X} answer Is = (x : X) → (answer ≡ Some x → Is x) × (Is x → answer ≡ Some x)

-- the test is false exactly if the relation holds
abbrev pub Refutes : Bool → Type 0 → Type 0
Refutes test P = (test ≡ false → P) × (P → test ≡ false)

pub Refutes-not : {P : Type 0} (t : Bool) → Decides t P → Refutes (not t) P
Refutes-not true d = ((λ e. d.0 refl), (λ h. refl))
Refutes-not false d = ((λ e. absurd (true≢false e)), (λ h. absurd (true≢false (sym (d.1 h)))))

pub Refutes-or : {P Q : Type 0} (a b : Bool) → Refutes a P → Refutes b Q → Refutes (a || b) (P × Q)
Refutes-or a b d k = ((λ e. let both = or_parts a b e in (d.0 both.0, k.0 both.1)), (λ h. or_from a b (d.1 h.0) (k.1 h.1)))

pub Refutes-and : {P Q : Type 0} (a b : Bool) → Decides a P → Refutes b Q → Refutes (a && b) (P → Q)
Refutes-and true b d k = ((λ e p. k.0 e), (λ h. k.1 (h (d.0 refl))))
Refutes-and false b d k = ((λ e p. absurd (true≢false (sym (d.1 p)))), (λ h. refl))

pub or_refuted : (a b : Bool) (P : Type 0) → (a ≡ true → b ≡ false → P) → (P → a ≡ true) → (P → b ≡ false) → Refutes (not a || b) P
or_refuted true b P to first second = ((λ e. to refl e), second)
or_refuted false b P to first second = ((λ e. absurd (true≢false e)), (λ h. absurd (true≢false (sym (first h)))))

pub Refutes-false : Refutes false ⊤
Refutes-false = ((λ _. tt), (λ _. refl))

pub Refutes-ne : {X : Type 0} {x y : X} (t : Bool) → Decides t (x ≡ y) → Refutes t (x ≢ y)
Refutes-ne true d = ((λ e. absurd (true≢false e)), (λ h. absurd (h (d.0 refl))))
Refutes-ne false d = ((λ e same. true≢false (sym (d.1 same))), (λ h. refl))

pub Decides-leb : (a b : ℕ) → Decides (nat_le a b) (a ≤ b)
Decides-leb a b = (leb-true a b, le-leb a b)

pub Decides-true : Decides true (Unit {0})
Decides-true = (λ _. tt, λ _. refl)

pub Decides-false : Decides false ⊥
Decides-false = (λ e. true≢false (sym e), λ h. absurd h)

module _ {X : Type 0} where
  pub Decides-all : (p : X → Bool) (P : X → Type 0)
      → ((x : X) → Decides (p x) (P x))
      → (xs : List X)
      → Decides (list_all p xs) (AllByRecursion P xs)
  Decides-all p P each [] = (λ _. tt, λ _. refl)
  Decides-all p P each (x ∷ xs) = Decides-and (p x) (list_all p xs) (each x) (Decides-all p P each xs)

  pub Refutes-any : (p : X → Bool) (P : X → Type 0)
      → ((x : X) → Refutes (p x) (P x))
      → (xs : List X)
      → Refutes (list_any p xs) (AllByRecursion P xs)
  Refutes-any p P each [] = Refutes-false
  Refutes-any p P each (x ∷ xs) = Refutes-or (p x) (list_any p xs) (each x) (Refutes-any p P each xs)

  pub same_some : (x y : X) → Some x ≡ Some y → x ≡ y
  same_some x y e = cc

  pub Decides-is_some : (o : Option X) (P : X → Type 0) → Says o P → Decides (is_some o) ((x : X) × P x)
  Decides-is_some None P says = (λ e. absurd (true≢false (sym e)), λ h. let e = (says h.0).1 h.1 in absurd cc)
  Decides-is_some (Some x) P says = (λ _. (x, (says x).0 refl), λ _. refl)

  pub Says-like : (o : Option X) (P Q : X → Type 0) → ((x : X) → P x → Q x) → ((x : X) → Q x → P x) → Says o P → Says o Q
  Says-like o P Q to from says x = (λ e. to x ((says x).0 e), λ h. (says x).1 (from x h))

  pub Says-if : (t : Bool) (P : Type 0) (v : X) → Decides t P → Says (cond t (Some v) None) (λ x. P × (v ≡ x))
  Says-if true P v d x = (λ e. (d.0 refl, same_some v x e), λ h. ap Some h.1)
  Says-if false P v d x = (λ e. absurd cc, λ h. absurd (true≢false (sym (d.1 h.0))))

  pub Says-when : (t : Bool) (o : Option X) (P : Type 0) (Q : X → Type 0) → Decides t P → Says o Q → Says (cond t o None) (λ x. P × Q x)
  Says-when true o P Q d says x = ((λ e. (d.0 refl, (says x).0 e)), (λ h. (says x).1 h.1))
  Says-when false o P Q d says x = ((λ e. absurd cc), (λ h. absurd (true≢false (sym (d.1 h.0)))))

  pub said_of : (o : Option X) (P : X → Type 0) (d : X) → Says o P → is_some o ≡ true → P (unwrap_or o d)
  said_of None P d says e = absurd (true≢false (sym e))
  said_of (Some x) P d says e = (says x).0 refl

  pub unwrap_of : (o : Option X) (P : X → Type 0) (d x : X) → Says o P → P x → x ≡ unwrap_or o d
  unwrap_of o P d x says h = sym (ap (λ answer. unwrap_or answer d) ((says x).1 h))

  -- the first of three tests that passes chooses its value
  pub chosen : (x y z : X) (a b c : Bool) (P : X → Type 0)
      → (a ≡ true → P x)
      → (b ≡ true → P y)
      → (c ≡ true → P z)
      → (answer : X)
      → cond a (Some x) (cond b (Some y) (cond c (Some z) None)) ≡ Some answer
      → P answer
  chosen x y z true b c P first second third answer e = subst P (same_some x answer e) (first refl)
  chosen x y z false true c P first second third answer e = subst P (same_some y answer e) (second refl)
  chosen x y z false false true P first second third answer e = subst P (same_some z answer e) (third refl)
  chosen x y z false false false P first second third answer e = absurd cc

  -- a test of what is read only if a first test passes
  pub Decides-read : (read : Bool) (xs : List X) (t : List X → Bool) (P Q : Type 0)
      → t [] ≡ true
      → Decides read P
      → Decides (t xs) Q
      → Decides (t (cond read xs [])) (P → Q)
  Decides-read true xs t P Q none d k = ((λ e p. k.0 e), (λ h. k.1 (h (d.0 refl))))
  Decides-read false xs t P Q none d k = ((λ e p. absurd (true≢false (sym (d.1 p)))), (λ h. none))

  pub Decides-of : (o : Option X) (P : X → Type 0) (t : Option X → Bool) (Q : X → Type 0)
      → Says o P
      → t None ≡ false
      → ((x : X) → Decides (t (Some x)) (Q x))
      → Decides (t o) ((x : X) × P x × Q x)
  Decides-of None P t Q says none each = (λ e. absurd (true≢false (sym e ∙ none)), λ h. let e = (says h.0).1 h.1 in absurd cc)
  Decides-of (Some x) P t Q says none each = (
    (λ e. (x, (says x).0 refl, (each x).0 e)),
    (λ h. let same : x ≡ h.0 = same_some x h.0 ((says h.0).1 h.1) in rw same ((each h.0).1 h.2)),
  )

module _ {X Y : Type 0} where
  pub Says-then : (o : Option X) (P : X → Type 0) (f : X → Option Y) (Q : X → Y → Type 0)
      → Says o P
      → ((x : X) → Says (f x) (Q x))
      → Says (option_and_then f o) (λ y. (x : X) × P x × Q x y)
  Says-then None P f Q says each y = (λ e. absurd cc, λ h. let e = (says h.0).1 h.1 in absurd cc)
  Says-then (Some x) P f Q says each y = (
    (λ e. (x, (says x).0 refl, (each x y).0 e)),
    (λ h. let same : x ≡ h.0 = same_some x h.0 ((says h.0).1 h.1) in rw same ((each h.0 y).1 h.2)),
  )
