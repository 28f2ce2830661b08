use Rattle.std.proofs.Common.{ap, ◌∙◌}
use Rattle.clap.specs.Simple.{app_of_fields}
use Rattle.hub_program.proofs.program.bare_command.Goals as goal

pub returns : goal.returns
returns c = record {
  app = ap app_of_fields c.after_help.ensures ∙ ap app_of_fields c.about.ensures ∙ c.new.ensures.app;
  local = rw (c.after_help.ensures, c.about.ensures) c.new.ensures.local;
}
