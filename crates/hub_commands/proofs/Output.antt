-- Texts printed one after another.
use Rattle.std.proofs.Common.{◌≡◌, ◌⊎◌, ℕ, Bool, List, ◌++◌, Option, inl, inr, ap, ◌∙◌, sym, subst, append_assoc}
use Rattle.std.specs.Prelude.{Result, Ok, Err, OnOk, OnErr}
use Rattle.std.proofs.KnownBytes.{Appends-trans}
use Rattle.hub_commands.specs.Output.{Written, Lost}

-- a text was written, or a front of it
pub written_or_lost : {T E : Type 0} {old new : Option (List ℕ)} {failed after : Bool} {text : List ℕ} (r : Result T E)
    → OnOk r (Written old new failed after text)
    → OnErr r (Lost old new after text)
    → Written old new failed after text ⊎ Lost old new after text
written_or_lost (Ok x) written lost = inl written
written_or_lost (Err e) written lost = inr lost

-- one text, and then another
pub written_then : {old between new : Option (List ℕ)} {failed middle after : Bool} {first second : List ℕ}
    → Written old between failed middle first
    → Written between new middle after second
    → Written old new failed after (first ++ second)
written_then {old} {between} {new} {failed} {middle} {after} {first} {second} a b = record {
  bytes = Appends-trans old between new first second a.bytes b.bytes;
  flag = b.flag ∙ a.flag;
}

-- a front of the first
pub lost_first : {old new : Option (List ℕ)} {after : Bool} {first : List ℕ} (second : List ℕ)
    → Lost old new after first
    → Lost old new after (first ++ second)
lost_first {old} {new} {after} {first} second l = record {
  front =
      (l.front.0, l.front.1 ++ second, ap (λ (t : List ℕ). t ++ second) l.front.2 ∙ append_assoc l.front.0 l.front.1 second, l.front.3);
  flag = l.flag;
}

-- the first, and a front of the second
pub lost_second : {old between new : Option (List ℕ)} {failed middle after : Bool} {first second : List ℕ}
    → Written old between failed middle first
    → Lost between new after second
    → Lost old new after (first ++ second)
lost_second {old} {between} {new} {failed} {middle} {after} {first} {second} w l = record {
  front = (
    first ++ l.front.0,
    l.front.1,
    ap (λ (t : List ℕ). first ++ t) l.front.2 ∙ sym (append_assoc first l.front.0 l.front.1),
    Appends-trans old between new first l.front.0 w.bytes l.front.3,
  );
  flag = l.flag;
}

-- another text that is the same
pub written_as : {old new : Option (List ℕ)} {failed after : Bool} {text same : List ℕ} → text ≡ same
    → Written old new failed after text → Written old new failed after same
written_as {old} {new} {failed} {after} e w = subst (λ (t : List ℕ). Written old new failed after t) e w

pub lost_as : {old new : Option (List ℕ)} {after : Bool} {text same : List ℕ} → text ≡ same
    → Lost old new after text → Lost old new after same
lost_as {old} {new} {after} e l = subst (λ (t : List ℕ). Lost old new after t) e l
