use Rattle.spf_chain.specs.Beginning.{site_of}
use Rattle.spf_chain.proofs.chain.Chain.start.Given as goal

abbrev pub ghost-key_of_site : goal.ghost-key_of_site
ghost-key_of_site a = site_of a.instance.now a.construct a.header.now a.frame.now a.entry.now a.guesses.now
