use Rattle.nr_resp.proofs.reader.Reader.feed.Goals as goal

pub returns-in-Err-clause-memory : goal.returns-in-Err-clause-memory
returns-in-Err-clause-memory c = λ memory is_open is. rw (← c.self.view_is) (c.in-Err.ensures.memory memory is)
