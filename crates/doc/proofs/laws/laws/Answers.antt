use Rattle.doc.proofs.Encoded.{reads_plain, encoded_once, encoded}
use Rattle.doc.proofs.laws.laws.Goals as goal

pub returns-clause-reads_plain : goal.returns-clause-reads_plain
returns-clause-reads_plain c = reads_plain

pub returns-clause-encoded_once : goal.returns-clause-encoded_once
returns-clause-encoded_once c = encoded_once

pub returns-clause-encoded : goal.returns-clause-encoded
returns-clause-encoded c = encoded
