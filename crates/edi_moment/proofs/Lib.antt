pub mod MomentLemmas
