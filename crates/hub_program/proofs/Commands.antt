-- Commands that are built option by option.
use Rattle.std.proofs.Common.{◌≡◌, ℕ, ◌+◌, ◌<◌, ◌≤◌, false, ◌∙◌, sym, subst, ap₂, ◌||◌, List, length, get_or, drop}
use Rattle.std.proofs.lemmas.List.{at_drop_all, at_drop_more}
use Rattle.clap.specs.Words.{AddsArg, Rule, Shape, rule_of, with_rule}
use Rattle.clap.specs.declared.builder.arg.Arg.{Arg}
use Rattle.clap.specs.declared.builder.command.Command.{Command}
use Rattle.hub_program.specs.declared.program.Choice.{Choice}
use Rattle.hub_program.specs.Program.{IsCommand, rule_of_choice, with_choices, with_option}

-- one option more, of one level alone
more : (shape : Shape) (rule : Rule) (old : Command) (a : Arg) (new : Command)
    → IsCommand shape old
    → rule_of a ≡ rule
    → a.global ≡ false
    → AddsArg old a new
    → IsCommand (with_option shape rule) new
more shape rule old a new is same local added = record {
  app = added.shape local ∙ ap₂ with_rule is.app same;
  local = added.globals ∙ ap₂ (λ x y. x || y) is.local local;
}

-- a command that is built of a table's options, of which these are left
pub record IsBuilt (shape : Shape) (choices left : List Choice) (command : Command) : Type 0 where
  pub so_far : Shape
  pub is : IsCommand so_far command
  pub to_come : with_choices so_far left ≡ with_choices shape choices

pub built_more : (shape : Shape) (choices : List Choice) (i : ℕ) (none : Choice) (old : Command) (a : Arg) (new : Command)
    → i < length choices
    → rule_of a ≡ rule_of_choice (get_or choices i none)
    → a.global ≡ false
    → AddsArg old a new
    → IsBuilt shape choices (drop i choices) old
    → IsBuilt shape choices (drop (i + 1) choices) new
built_more shape choices i none old a new within same local added built =
    let rule = rule_of_choice (get_or choices i none) in
    record {
      so_far = with_option built.so_far rule;
      is = more built.so_far rule old a new built.is same local added;
      to_come = sym (at_drop_more (with_choices built.so_far) choices i none within) ∙ built.to_come;
    }

pub built_all : (shape : Shape) (choices : List Choice) (i : ℕ) (command : Command)
    → length choices ≤ i
    → IsBuilt shape choices (drop i choices) command
    → IsCommand (with_choices shape choices) command
built_all shape choices i command all built =
    subst (λ (s : Shape). IsCommand s command)
    (sym (at_drop_all (with_choices built.so_far) choices i all) ∙ built.to_come) built.is
