use Rattle.pn_config.proofs.EntryLemmas.{bad_text}
use Rattle.pn_config.proofs.catalogs.put_entry.Goals as goal

pub returns-in-Err-Unsupported-clause-fault : goal.returns-in-Err-Unsupported-clause-fault
returns-in-Err-Unsupported-clause-fault c =
    bad_text c.args.key.now c.args.value.now c.in-Scalar.scalar c.in_ok-text.text c.in-Err-Unsupported.field-0 c.in-Scalar.is c.in_ok-text.ensures c.in-Err-Unsupported.field-0-is c.in-Err-Unsupported.ensures.fault
