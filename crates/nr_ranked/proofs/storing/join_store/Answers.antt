use Rattle.std.proofs.Common.{rules}
use Rattle.nr_model.specs.Keyspace.{live}
use Rattle.nr_resp.specs.Seen.{reply_of}
use Rattle.nr_ranked.specs.Storing.{request_of}
use Rattle.nr_ranked.proofs.StoringDone.{joined_stored, not_joined}
use Rattle.nr_ranked.proofs.storing.join_store.Goals as goal

pub returns-in_err-zset : goal.returns-in_err-zset
returns-in_err-zset g c =
    not_joined g.T.Touched.after c.args.joining c.args.keyspace.now (live c.args.keyspace.now c.args.now) c.args.database c.args.words.now (request_of c.in_ok-request.request)
    c.args.touched.now c.from_residual-in_err-zset.result c.requires c.in_ok-request.ensures.request c.from_residual-in_err-zset.ensures.0 (search rules)

pub returns : goal.returns
returns g c =
    joined_stored g.T.Touched.after c.args.joining c.args.keyspace.now c.put.new.keyspace (live c.args.keyspace.now c.args.now) c.args.database c.args.words.now
    (request_of c.in_ok-request.request) c.in_ok-zset.zset c.args.touched.now c.put.new.touched (reply_of c.in_ok-put.field-0) c.requires c.in_ok-request.ensures.request
    c.in_ok-zset.ensures.joined c.in_ok-put.ensures
