-- Which bytes of a file are the key, computed.
use Rattle.std.proofs.Common.{◌≡◌, ℕ, List, [], ◌++◌, length, codes, replicate, refl}
use Rattle.hub_commands.specs.Key.{key_in}

abbrev longest : List ℕ
longest = replicate 64 0x6B

no_line_end : key_in (codes "alpha-key-1") ≡ codes "alpha-key-1"
no_line_end = refl

line_feed : key_in (codes "alpha-key-1\n") ≡ codes "alpha-key-1"
line_feed = refl

carriage_return_and_line_feed : key_in (codes "alpha-key-1\r\nbeta-key-1\r\n") ≡ codes "alpha-key-1"
carriage_return_and_line_feed = refl

carriage_return_alone : key_in (codes "alpha\rkey\r") ≡ codes "alpha\rkey\r"
carriage_return_alone = refl

two_carriage_returns : key_in (codes "alpha-key-1\r\r\n") ≡ codes "alpha-key-1\r"
two_carriage_returns = refl

empty_file : key_in [] ≡ []
empty_file = refl

empty_line : key_in (codes "\nalpha-key-1\n") ≡ []
empty_line = refl

longest_key : key_in (longest ++ codes "\r\nmore") ≡ longest
longest_key = refl

one_byte_more : key_in (longest ++ codes "k\r\n") ≡ longest ++ codes "k"
one_byte_more = refl

far_longer : length (key_in (replicate 1000 0x6B)) ≡ 65
far_longer = refl
