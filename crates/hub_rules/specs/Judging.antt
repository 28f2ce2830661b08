-- Defines how rules are combined. A judge looks at a state and either accepts with changes or refuses with the code of
-- the first rule that fails; nested checks run in the order in which they are written.
use Rattle.std.specs.Prelude.{Bool, true, false, List, [], ◌∷◌, ◌++◌, Option, Some, None}
use Rattle.hub_tables.specs.Change.{apply_all}
use Rattle.hub_tables.specs.Tables.{Tables}
use Rattle.hub_tables.specs.declared.change.Change.{Change}
use Rattle.hub_rules.specs.declared.code.Code.{Code}
use Rattle.hub_rules.specs.declared.verdict.Verdict.{Verdict}
use Rattle.hub_rules.specs.declared.verdict.Verdict.TheVariants.{Accept, Refuse}

abbrev pub Judge : Type 0
Judge = Tables → Verdict

abbrev pub gives : List Change → Judge
gives changes state = Accept changes

-- refuses if the test holds, else goes on with the rest
abbrev pub refuse_if : Bool → Code → Verdict → Verdict
refuse_if true code rest = Refuse code
refuse_if false code rest = rest

-- refuses if there is no value, else goes on with it
abbrev pub given : {X : Type 0} → Option X → Code → (X → Verdict) → Verdict
given None code rest = Refuse code
given (Some x) code rest = rest x

abbrev pub joined : List Change → Verdict → Verdict
joined first (Refuse code) = Refuse code
joined first (Accept rest) = Accept (first ++ rest)

abbrev pub goes_on : Verdict → Judge → Judge
goes_on (Refuse code) second state = Refuse code
goes_on (Accept first) second state = joined first (second (apply_all first state))

-- the second judge sees the state that the first one left
abbrev pub in_turn : Judge → Judge → Judge
in_turn first second state = goes_on (first state) second state

-- each judge sees the state that the earlier ones left
abbrev pub in_order : {X : Type 0} → (X → Judge) → List X → Judge
in_order judge [] = gives []
in_order judge (x ∷ xs) = in_turn (judge x) (in_order judge xs)
