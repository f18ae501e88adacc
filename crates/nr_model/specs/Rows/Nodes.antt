-- Rows of the steps of several nodes: their outcomes, and what they hand out.
use Rattle.std.specs.Prelude.{◌≡◌, ℕ, true, List, [], ◌∷◌, ◌++◌, map, fold, replicate, Option, Some, None, option_to_list, codes}
use Rattle.nr_model.specs.Bytes.{Bytes}
use Rattle.nr_model.specs.Items.{Connection, Act, End, Sequence}
use Rattle.nr_model.specs.Rows.Modes.{get_k, subscribe_news}
use Rattle.nr_model.specs.Rows.Sequential.{item, set_to, publish}
use Rattle.nr_model.specs.Asked.{first_number}
use Rattle.nr_model.specs.Connections.{Setup, Handed, Closing}
use Rattle.nr_model.specs.Nodes.{World, fresh, node_at, sequence_of}
use Rattle.nr_model.specs.Sequential.{emitted_for}
use Rattle.nr_model.specs.Nodes.Steps.{Step, Open, Feed, Post, Lift, Reserve, Fill, Fetch, Apply, Look, Answer, Collect, Close, Refuse, Revive, Outcome, Opened, Done, Idle, Refused, nothing_refused, outcome, came_to, after_step}
use Rattle.nr_model.specs.declared.reason.Reason.TheVariants.{Ended, Down, Busy, Nothing, Full, NotYet, NoSuch, NoMemory}
use Rattle.nr_model.specs.Nodes.Pasts.{handed_by}

-- so many nodes and places, one worker a node
abbrev pub of : ℕ → ℕ → ℕ → Setup
of nodes places queue = record { nodes = nodes; places = places; workers = 1; connections = 256; queue_limit = queue }

abbrev pub outcomes_from : Setup → World → List Step → List Outcome
outcomes_from setup world [] = []
outcomes_from setup world (step ∷ steps) = outcome setup world step ∷ outcomes_from setup (after_step setup world step nothing_refused) steps

abbrev pub outcomes : Setup → List Step → List Outcome
outcomes setup steps = outcomes_from setup (fresh setup) steps

abbrev pub handed_from : Setup → World → List Step → List Handed
handed_from setup world [] = []
handed_from setup world (step ∷ steps) = handed_by world step ++ handed_from setup (after_step setup world step nothing_refused) steps

abbrev pub handed : Setup → List Step → List Handed
handed setup steps = handed_from setup (fresh setup) steps

-- the world behind steps, and the number of each job that a close put
abbrev pub world_of : Setup → List Step → World
world_of setup steps = fold (λ world step. after_step setup world step nothing_refused) (fresh setup) steps

abbrev pub numbers_closed : Setup → List Step → List (Option ℕ)
numbers_closed setup steps = map (λ (closing : Closing). first_number (option_to_list closing.job)) (world_of setup steps).closed

-- memory is refused for a copy
abbrev pub copy_refused : Refused
copy_refused = record nothing_refused { copy = true }

abbrev pub on : ℕ → ℕ → Connection
on node serial = record { node = node; serial = serial }

abbrev pub to : Connection → Bytes → Handed
to c bytes = record { connection = c; bytes = bytes }

-- a read takes no entry, and waits until all that was reserved is filled for its node
abbrev pub read_elsewhere : List Step
read_elsewhere =
    Open 0 0 ∷ Open 1 0 ∷ Feed (on 0 0) 100 (codes "SET k v\r\n") ∷ Post 0 0 ∷ Lift 0 0 ∷ Reserve 0 ∷ Fill 0 0 ∷ Fetch 0 ∷ Apply 0 ∷ Answer 0 0 ∷ Collect 0 0
    ∷ Feed (on 1 0) 100 (codes "PING\r\n") ∷ Post 1 0 ∷ Lift 1 0 ∷ Look 1 ∷ Fill 0 1 ∷ Look 1 ∷ Answer 1 0 ∷ Collect 1 0 ∷ []

-- a circle of two places is full until the other node has passed an entry
abbrev pub entry_of : ℕ → List Step
entry_of serial =
    Open 0 0 ∷ Feed (on 0 serial) 100 (codes "QUIT\r\n") ∷ Post 0 0 ∷ Lift 0 0 ∷ Reserve 0 ∷ Fill 0 0 ∷ Fill 0 1 ∷ Fetch 0 ∷ Apply 0 ∷ Answer 0 0 ∷ Collect 0 0 ∷ []

abbrev pub full_circle : List Step
full_circle =
    entry_of 0 ++ entry_of 1
    ++ Open 0 0 ∷ Feed (on 0 2) 100 (codes "QUIT\r\n") ∷ Post 0 0 ∷ Lift 0 0 ∷ Reserve 0 ∷ Fetch 1 ∷ Reserve 0 ∷ Apply 1 ∷ Reserve 0 ∷ []

abbrev pub entry_done : ℕ → List Outcome
entry_done serial = Opened (on 0 serial) ∷ Done ∷ Done ∷ Done ∷ Done ∷ Done ∷ Done ∷ Done ∷ Done ∷ Done ∷ Done ∷ []

-- a node's own entry waits for the one before it, which another node hasn't filled
abbrev pub not_filled : List Step
not_filled =
    Open 0 0 ∷ Feed (on 0 0) 100 (codes "QUIT\r\n") ∷ Post 0 0 ∷ Lift 0 0 ∷ Reserve 0 ∷ Open 1 0 ∷ Feed (on 1 0) 100 (codes "QUIT\r\n") ∷ Post 1 0 ∷ Lift 1 0 ∷ Reserve 1
    ∷ Fill 1 0 ∷ Fill 1 1 ∷ Fetch 1 ∷ Fill 0 1 ∷ Fetch 1 ∷ Fetch 1 ∷ Fill 0 1 ∷ Fill 1 2 ∷ []

-- a node falls by the entry that is refused: its connections are answered no more, the entry stays, and the circle goes on
abbrev pub fallen_node : List Step
fallen_node =
    Open 0 0 ∷ Open 1 0 ∷ Refuse 1 ∷ Feed (on 1 0) 100 (codes "QUIT\r\n") ∷ Post 1 0 ∷ Lift 1 0 ∷ Reserve 1 ∷ Fill 1 0 ∷ Fill 1 1 ∷ Fetch 1 ∷ Apply 1
    ∷ Look 1 ∷ Reserve 1 ∷ Open 1 0 ∷ Close (on 1 0) 100 ∷ Answer 1 0 ∷ Collect 1 0 ∷ Collect 1 0 ∷ Fetch 0 ∷ Apply 0 ∷ Refuse 1 ∷ []

-- a close drops what wasn't posted, and what was posted is executed
abbrev pub closed_between : List Step
closed_between =
    Open 0 0 ∷ Feed (on 0 0) 100 (codes "PING\r\n") ∷ Post 0 0 ∷ Feed (on 0 0) 100 (codes "PING\r\n") ∷ Close (on 0 0) 200 ∷ Close (on 0 0) 200 ∷ Feed (on 0 0) 200 (codes "PING\r\n")
    ∷ Lift 0 0 ∷ Look 0 ∷ Answer 0 0 ∷ Post 0 0 ∷ Collect 0 0 ∷ Post 0 0 ∷ Lift 0 0 ∷ Look 0 ∷ Reserve 0 ∷ []

-- one of two nodes reserves an entry, which both apply, and answers
abbrev pub applied_by_both : ℕ → List Step
applied_by_both n =
    Post n 0 ∷ Lift n 0 ∷ Reserve n ∷ Fill n 0 ∷ Fill n 1 ∷ Fetch 0 ∷ Apply 0 ∷ Fetch 1 ∷ Apply 1 ∷ Answer n 0 ∷ Collect n 0 ∷ []

-- or runs a read
abbrev pub read_by : ℕ → List Step
read_by n = Post n 0 ∷ Lift n 0 ∷ Look n ∷ Answer n 0 ∷ Collect n 0 ∷ []

abbrev pub all_done : ℕ → List Outcome
all_done count = replicate count Done

-- a node that is up doesn't come back, nor one that has begun something, nor with the server of a node that is down or has passed another number of entries
abbrev pub before_revival : List Step
before_revival =
    Open 0 0 ∷ Feed (on 0 0) 100 (codes "SET k v\r\n") ∷ Post 0 0 ∷ Lift 0 0 ∷ Reserve 0 ∷ Fill 0 0 ∷ Fill 0 1 ∷ Revive 2 0 ∷ Revive 1 2 ∷ Revive 1 0 ∷ Revive 0 1
    ∷ Refuse 1 ∷ Fetch 1 ∷ Revive 1 0 ∷ Apply 1 ∷ Revive 1 1 ∷ Revive 0 1 ∷ Revive 1 0 ∷ Fetch 0 ∷ Apply 0 ∷ []

abbrev pub revivals : List Step
revivals = before_revival ++ Revive 1 0 ∷ Revive 1 0 ∷ []

-- A node that has come back answers new connections, and its server is that of the others. The connections from before it fell are ended; a close puts
-- their end, which is executed.
abbrev pub come_back : List Step
come_back =
    Open 0 0 ∷ Open 1 0 ∷ Feed (on 1 0) 100 (codes "PING\r\n") ∷ read_by 1
    ++ Refuse 1 ∷ Feed (on 0 0) 100 (codes "SET k w\r\n") ∷ applied_by_both 0
    ++ Feed (on 1 0) 100 (codes "PING\r\n") ∷ Feed (on 0 0) 100 (codes "SET k x\r\n") ∷ applied_by_both 0
    ++ Revive 1 0 ∷ Open 1 0 ∷ Feed (on 1 1) 200 (codes "PING\r\n") ∷ read_by 1
    ++ Feed (on 1 0) 200 (codes "PING\r\n") ∷ Close (on 1 0) 200 ∷ Close (on 1 0) 200 ∷ applied_by_both 1
    ++ Feed (on 0 0) 200 (codes "SET k y\r\n") ∷ applied_by_both 0

-- what those are subscribed to stays until then; a new connection reads what was written while its node was down
abbrev pub heard : List Step
heard =
    Open 1 0 ∷ Feed (on 1 0) 100 (codes "SUBSCRIBE news\r\n") ∷ applied_by_both 1
    ++ Refuse 1 ∷ Open 0 0 ∷ Feed (on 0 0) 100 (codes "SET k w\r\n") ∷ applied_by_both 0
    ++ Open 0 0 ∷ Feed (on 0 1) 100 (codes "PUBLISH news x\r\n") ∷ applied_by_both 0
    ++ Revive 1 0 ∷ Open 1 0 ∷ Feed (on 1 1) 200 (codes "GET k\r\n") ∷ read_by 1
    ++ Close (on 1 0) 200 ∷ applied_by_both 1
    ++ Open 0 0 ∷ Feed (on 0 2) 200 (codes "PUBLISH news x\r\n") ∷ applied_by_both 0

abbrev pub heard_items : Sequence
heard_items =
    item (on 1 0) 0 100 (Act subscribe_news) ∷ item (on 0 0) 0 100 (set_to (codes "k") (codes "w")) ∷ item (on 0 1) 0 100 (publish (codes "x"))
    ∷ item (on 1 1) 0 200 (Act get_k) ∷ item (on 1 0) 1 200 (End None) ∷ item (on 0 2) 0 200 (publish (codes "x")) ∷ []

-- A node comes back only once its cells are filled and its batches answered. An entry of its own from before it fell, which still lies ahead of it then,
-- answers no batch of after.
abbrev pub own_ahead : List Step
own_ahead =
    Open 0 0 ∷ Open 1 0 ∷ Feed (on 0 0) 100 (codes "QUIT\r\n") ∷ Post 0 0 ∷ Lift 0 0 ∷ Reserve 0 ∷ Fill 0 0 ∷ Fill 0 1
    ∷ Refuse 1 ∷ Feed (on 1 0) 100 (codes "QUIT\r\n") ∷ Post 1 0 ∷ Lift 1 0 ∷ Reserve 1 ∷ Fill 1 0 ∷ Fetch 1 ∷ Apply 1 ∷ Fetch 0 ∷ Apply 0
    ∷ Revive 1 0 ∷ Fill 1 1 ∷ Revive 1 0 ∷ Answer 1 0 ∷ Revive 1 0
    ∷ Open 1 0 ∷ Feed (on 1 1) 110 (codes "QUIT\r\n") ∷ Collect 1 0 ∷ Post 1 0 ∷ Lift 1 0 ∷ Fetch 1 ∷ Apply 1 ∷ Answer 1 0
    ∷ Reserve 1 ∷ Fill 1 0 ∷ Fill 1 1 ∷ Fetch 1 ∷ Apply 1 ∷ Answer 1 0 ∷ []

-- a connection whose limit had cut it stays ended, whatever falls; one that only a fall has cut is ended while its node is up again
abbrev pub entry_behind : ℕ → List Step
entry_behind serial =
    Open 0 0 ∷ Feed (on 0 serial) 100 (codes "QUIT\r\n") ∷ Refuse 1 ∷ applied_by_both 0 ++ Feed (on 1 0) 100 (codes "PING\r\n") ∷ Feed (on 1 1) 100 (codes "PING\r\n") ∷ []

abbrev pub cut_and_fallen : List Step
cut_and_fallen =
    Open 1 0 ∷ Open 1 0 ∷ Feed (on 1 0) 100 (codes "PING\r\n") ∷ Post 1 0 ∷ Lift 1 0 ∷ Look 1 ∷ Answer 1 0 ∷ Collect 1 0 ∷ entry_behind 0
    ++ Revive 1 0 ∷ Feed (on 1 0) 100 (codes "PING\r\n") ∷ Feed (on 1 1) 100 (codes "PING\r\n") ∷ entry_behind 1

abbrev pub fallen_behind : List Outcome
fallen_behind = Done ∷ Done ∷ all_done 11 ++ Idle Ended ∷ Idle Down ∷ []

-- a close behind the fall has the number of the first job that was lost, whether it was lifted, posted or neither, and else the next
abbrev pub closed_behind : List Step
closed_behind =
    Open 1 0 ∷ Open 1 0 ∷ Open 0 0 ∷ Feed (on 0 0) 100 (codes "QUIT\r\n")
    ∷ Feed (on 1 0) 100 (codes "PING\r\n") ∷ Feed (on 1 1) 100 (codes "PING\r\n") ∷ Post 1 0 ∷ Lift 1 0 ∷ Look 1 ∷ Answer 1 0 ∷ Collect 1 0
    ∷ Feed (on 1 0) 100 (codes "PING\r\nPING\r\n") ∷ Post 1 0 ∷ Lift 1 0 ∷ Feed (on 1 0) 100 (codes "PING\r\n")
    ∷ Refuse 1 ∷ applied_by_both 0 ++ Answer 1 0 ∷ Collect 1 0 ∷ Revive 1 0 ∷ Close (on 1 1) 200 ∷ Close (on 1 0) 200 ∷ []

pub record NodesRows : Type 0 where
  pub read : outcomes (of 2 4 1048576) read_elsewhere
      ≡ Opened (on 0 0) ∷ Opened (on 1 0) ∷ Done ∷ Done ∷ Done ∷ Done ∷ Done ∷ Done ∷ Done ∷ Done ∷ Done ∷ Done ∷ Done ∷ Done ∷ Idle NotYet ∷ Done ∷ Done ∷ Done ∷ Done ∷ []
  pub answered : handed (of 2 4 1048576) read_elsewhere ≡ to (on 0 0) (codes "+OK\r\n") ∷ to (on 1 0) (codes "+PONG\r\n") ∷ []
  pub full : outcomes (of 2 2 1048576) full_circle
      ≡ entry_done 0 ++ entry_done 1 ++ Opened (on 0 2) ∷ Done ∷ Done ∷ Done ∷ Idle Full ∷ Done ∷ Idle Full ∷ Done ∷ Done ∷ []
  pub waits : outcomes (of 2 4 1048576) not_filled
      ≡ Opened (on 0 0) ∷ Done ∷ Done ∷ Done ∷ Done ∷ Opened (on 1 0) ∷ Done ∷ Done ∷ Done ∷ Done ∷ Done ∷ Done ∷ Idle NotYet ∷ Done ∷ Done ∷ Idle Busy ∷ Idle Nothing ∷ Idle NoSuch ∷ []
  pub falls : outcomes (of 2 2 1048576) fallen_node
      ≡ Opened (on 0 0) ∷ Opened (on 1 0) ∷ Done ∷ Done ∷ Done ∷ Done ∷ Done ∷ Done ∷ Done ∷ Done ∷ Done
      ∷ Idle Down ∷ Idle Down ∷ Idle Down ∷ Idle Down ∷ Done ∷ Done ∷ Idle Nothing ∷ Done ∷ Done ∷ Idle Down ∷ []
  pub nothing_of_it : handed (of 2 2 1048576) fallen_node ≡ []
  pub closed : outcomes (of 1 2 1048576) closed_between
      ≡ Opened (on 0 0) ∷ Done ∷ Done ∷ Done ∷ Done ∷ Idle Ended ∷ Idle Ended ∷ Done ∷ Done ∷ Done ∷ Idle Busy ∷ Done ∷ Done ∷ Done ∷ Idle Nothing ∷ Done ∷ []
  pub revives : outcomes (of 2 4 1048576) revivals
      ≡ Opened (on 0 0) ∷ all_done 6 ++ Idle NoSuch ∷ Idle NoSuch ∷ Idle Nothing ∷ Idle Busy ∷ Done ∷ Done ∷ Idle Busy ∷ Done ∷ Idle Down ∷ Idle Down ∷ Idle NotYet
      ∷ Done ∷ Done ∷ Done ∷ Idle Nothing ∷ []
  pub refused : came_to (of 2 4 1048576) (world_of (of 2 4 1048576) before_revival) (Revive 1 0) copy_refused ≡ Idle NoMemory
  pub comes_back : outcomes (of 2 2 1048576) come_back
      ≡ Opened (on 0 0) ∷ Opened (on 1 0) ∷ Done ∷ all_done 5 ++ Done ∷ Done ∷ all_done 11 ++ Idle Down ∷ Done ∷ all_done 11
      ++ Done ∷ Opened (on 1 1) ∷ Done ∷ all_done 5 ++ Idle Ended ∷ Done ∷ Idle Ended ∷ all_done 11 ++ Done ∷ all_done 11
  pub answered_behind : handed (of 2 2 1048576) come_back
      ≡ to (on 1 0) (codes "+PONG\r\n") ∷ to (on 0 0) (codes "+OK\r\n") ∷ to (on 0 0) (codes "+OK\r\n") ∷ to (on 1 1) (codes "+PONG\r\n")
      ∷ to (on 0 0) (codes "+OK\r\n") ∷ []
  pub same : (node_at 1 (world_of (of 2 2 1048576) come_back)).server ≡ (node_at 0 (world_of (of 2 2 1048576) come_back)).server
  pub hears : outcomes (of 2 2 1048576) heard
      ≡ Opened (on 1 0) ∷ Done ∷ all_done 11 ++ Done ∷ Opened (on 0 0) ∷ Done ∷ all_done 11 ++ Opened (on 0 1) ∷ Done ∷ all_done 11
      ++ Done ∷ Opened (on 1 1) ∷ Done ∷ all_done 5 ++ Done ∷ all_done 11 ++ Opened (on 0 2) ∷ Done ∷ all_done 11
  pub taken : sequence_of (world_of (of 2 2 1048576) heard) ≡ heard_items
  pub published : emitted_for (on 0 1) heard_items ≡ codes ":1\r\n"
  pub got : emitted_for (on 1 1) heard_items ≡ codes "$1\r\nw\r\n"
  pub gone : emitted_for (on 0 2) heard_items ≡ codes ":0\r\n"
  pub ahead : outcomes (of 2 4 1048576) own_ahead
      ≡ Opened (on 0 0) ∷ Opened (on 1 0) ∷ all_done 16 ++ Idle Busy ∷ Done ∷ Idle Busy ∷ Done ∷ Done
      ∷ Opened (on 1 1) ∷ all_done 6 ++ Idle NotYet ∷ all_done 6
  pub cut : outcomes (of 2 4 4) cut_and_fallen
      ≡ Opened (on 1 0) ∷ Opened (on 1 1) ∷ all_done 6 ++ Opened (on 0 0) ∷ fallen_behind ++ Done ∷ Idle Ended ∷ Idle Ended ∷ Opened (on 0 1) ∷ fallen_behind
  pub numbered : numbers_closed (of 2 4 1048576) closed_behind ≡ Some 1 ∷ Some 1 ∷ []
