use Rattle.hub_texts.proofs.SeenLines.{seen_rise}
use Rattle.hub_texts.proofs.laws.status_is_given_what_it_asks.Goals as goal

pub returns : goal.returns
returns c = record {
  rise = seen_rise;
  balanced = λ suppliers gln t sound. (sound.kept gln).balanced;
}
