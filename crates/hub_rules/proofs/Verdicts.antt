-- Shows what an accepted verdict says about its parts, and combines judges that lead from one property of a supplier's
-- rows to another.
use Rattle.std.proofs.Common.{◌≡◌, Bool, true, false, List, [], ◌∷◌, ◌++◌, Option, Some, None, refl, subst}
use Rattle.hub_parties.specs.declared.row.SupplierRow.{SupplierRow}
use Rattle.hub_tables.specs.Change.{apply, apply_all}
use Rattle.hub_tables.specs.Tables.{Tables}
use Rattle.hub_tables.specs.declared.change.Change.{Change}
use Rattle.hub_rules.specs.Judging.{Judge, gives, refuse_if, given, joined, goes_on, in_turn, in_order}
use Rattle.hub_rules.specs.declared.code.Code.{Code}
use Rattle.hub_rules.specs.declared.verdict.Verdict.{Verdict}
use Rattle.hub_rules.specs.declared.verdict.Verdict.TheVariants.{Accept, Refuse}
use Rattle.hub_rules.proofs.Belonging.{Belongs, BelongAll}

pub not_refused : (b : Bool) (code : Code) (rest : Verdict) (changes : List Change)
    → refuse_if b code rest ≡ Accept changes
    → (b ≡ false) × (rest ≡ Accept changes)
not_refused true code rest changes h = cc
not_refused false code rest changes h = (refl, h)

pub was_given : {X : Type 0} (o : Option X) (code : Code) (rest : X → Verdict) (changes : List Change)
    → given o code rest ≡ Accept changes
    → (x : X) × (o ≡ Some x) × (rest x ≡ Accept changes)
was_given None code rest changes h = cc
was_given (Some x) code rest changes h = (x, refl, h)

-- what was joined to the given changes
pub joined_rest : (first : List Change) (verdict : Verdict) (changes : List Change)
    → joined first verdict ≡ Accept changes
    → (rest : List Change) × (verdict ≡ Accept rest) × (first ++ rest ≡ changes)
joined_rest first (Refuse code) changes h = cc
joined_rest first (Accept rest) changes h = (rest, refl, cc)

-- changes that belong to the supplier, and after which its rows have a property
pub record Leaves (s : SupplierRow) (After : Tables → Type 0) (state : Tables) (changes : List Change) : Type 0 where
  pub belong : BelongAll s state changes
  pub after : After (apply_all changes state)

-- if the rows have the first property, they have the second after everything that the judge accepts
abbrev pub Leads : SupplierRow → (Tables → Type 0) → (Tables → Type 0) → Judge → Type 0
Leads s Before After judge =
    (state : Tables) (changes : List Change) → Before state → judge state ≡ Accept changes → Leaves s After state changes

module _ (s : SupplierRow) where
  pub leaves_given : (After : Tables → Type 0) (state : Tables) (given changes : List Change)
      → ◌≡◌ {A = Verdict} (Accept given) (Accept changes)
      → Leaves s After state given
      → Leaves s After state changes
  leaves_given After state given changes h left = let e : given ≡ changes = cc in subst (Leaves s After state) e left

  pub leaves_nothing : (After : Tables → Type 0) (state : Tables) → After state → Leaves s After state []
  leaves_nothing After state after = record { belong = tt; after = after }

  pub leaves_next : (After : Tables → Type 0) (state : Tables) (change : Change) (changes : List Change)
      → Belongs s state change
      → Leaves s After (apply change state) changes
      → Leaves s After state (change ∷ changes)
  leaves_next After state change changes belongs rest = record { belong = (belongs, rest.belong); after = rest.after }

  leaves_both : (After : Tables → Type 0) (a b : List Change) (state : Tables)
      → BelongAll s state a
      → Leaves s After (apply_all a state) b
      → Leaves s After state (a ++ b)
  leaves_both After [] b state belong rest = rest
  leaves_both After (change ∷ changes) b state belong rest =
      leaves_next After state change (changes ++ b) belong.0 (leaves_both After changes b (apply change state) belong.1 rest)

  -- the given changes, then what a judge decides on what they left
  pub leaves_in_turn : (Between After : Tables → Type 0) (first : List Change) (second : Judge) (state : Tables)
      (changes : List Change)
      → Leaves s Between state first
      → Leads s Between After second
      → in_turn (gives first) second state ≡ Accept changes
      → Leaves s After state changes
  leaves_in_turn Between After first second state changes left f h =
      let rest = joined_rest first (second (apply_all first state)) changes h in
      subst (Leaves s After state) rest.2
      (leaves_both After first rest.0 state left.belong (f (apply_all first state) rest.0 left.after rest.1))

  pub leads_in_turn : (Before Between After : Tables → Type 0) (first second : Judge)
      → Leads s Before Between first
      → Leads s Between After second
      → Leads s Before After (in_turn first second)
  leads_in_turn Before Between After first second f g state changes before h =
      elim (first state) as (λ v. first state ≡ v → goes_on v second state ≡ Accept changes → Leaves s After state changes) [
        | Refuse code ↦ λ e rest. cc
        | Accept a ↦ λ e rest. leaves_in_turn Between After a second state changes (f state a before e) g rest
      ] refl h

  pub leads_in_order : {X : Type 0} (Always : Tables → Type 0) (judge : X → Judge)
      → ((x : X) → Leads s Always Always (judge x))
      → (xs : List X)
      → Leads s Always Always (in_order judge xs)
  leads_in_order Always judge f [] state changes always h = leaves_given Always state [] changes h (leaves_nothing Always state always)
  leads_in_order Always judge f (x ∷ xs) state changes always h =
      leads_in_turn Always Always Always (judge x) (in_order judge xs) (f x) (leads_in_order Always judge f xs) state changes
      always h
