use Rattle.hub_register.proofs.PrefixFree.{is_prefix_free}
use Rattle.hub_register.proofs.register.register_of_text_is_prefix_free.Goals as goal

pub returns : goal.returns
returns c = is_prefix_free
