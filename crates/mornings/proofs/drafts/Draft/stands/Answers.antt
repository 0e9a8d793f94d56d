use Rattle.mornings.proofs.drafts.Draft.stands.Goals as goal

pub returns-in-Handset : goal.returns-in-Handset
returns-in-Handset c = rw c.in-Handset.is c.has_handset.ensures
