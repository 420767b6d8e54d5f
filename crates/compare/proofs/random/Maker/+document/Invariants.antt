use Rattle.compare.proofs.random.Maker.+document.Given as goal

abbrev pub decreases-document : goal.decreases-document
decreases-document l = l.parts
