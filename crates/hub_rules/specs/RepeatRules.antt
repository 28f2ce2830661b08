-- Defines the rule for repeated messages (B03): the same content under the same references is accepted again without
-- changes, and other content under them is refused.
use Rattle.std.specs.Prelude.{ℕ, List, [], ◌∷◌, Option, Some, None, if◌then◌else◌}
use Rattle.hub_tables.specs.Cases.{side_letter}
use Rattle.hub_tables.specs.Rows.{same}
use Rattle.hub_tables.specs.State.{remembered_of}
use Rattle.hub_tables.specs.declared.cases.Side.{Side}
use Rattle.hub_tables.specs.declared.change.Change.TheVariants.{Remember}
use Rattle.hub_tables.specs.declared.rows.RememberedRow.{RememberedRow}
use Rattle.hub_rules.specs.Judging.{Judge, gives, in_turn}
use Rattle.hub_rules.specs.declared.code.Code.TheVariants.{OtherContent}
use Rattle.hub_rules.specs.declared.verdict.Verdict.{Verdict}
use Rattle.hub_rules.specs.declared.verdict.Verdict.TheVariants.{Accept, Refuse}

-- the reference under which a message or a cancellation of a supplier is remembered
pub record Reference : Type 0 where
  pub supplier : List ℕ
  pub side : Side
  pub control : List ℕ
  pub message : List ℕ

abbrev pub remembered : Reference → List ℕ → RememberedRow
remembered r content =
    record {
      supplier = r.supplier;
      side = side_letter r.side;
      control = r.control;
      message = r.message;
      content = content;
    }

-- if something is remembered, a repetition or B03; else goes on with the checks
abbrev pub once : Option RememberedRow → List ℕ → Verdict → Verdict
once None content fresh = fresh
once (Some row) content fresh = if same row.content content then Accept [] else Refuse OtherContent

-- B03; then the message is remembered, and the other checks follow
abbrev pub judge_once : Reference → List ℕ → Judge → Judge
judge_once r content fresh state =
    once (remembered_of state r.side r.control r.message) content
    (in_turn (gives (Remember (remembered r content) ∷ [])) fresh state)
