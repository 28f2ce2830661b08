use Rattle.hub_clean.proofs.CleanVerdicts.{cleaned_join, cleaned_taken}
use Rattle.hub_clean.proofs.Submitted.{submission_cleaned}
use Rattle.hub_clean.proofs.laws.rules_keep_rows_clean.Goals as goal

pub returns-clause-submission : goal.returns-clause-submission
returns-clause-submission c = submission_cleaned

pub returns-clause-taken : goal.returns-clause-taken
returns-clause-taken c = cleaned_taken

pub returns-clause-join : goal.returns-clause-join
returns-clause-join c = cleaned_join
