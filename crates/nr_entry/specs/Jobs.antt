-- The jobs of the code as items of the definitions.
use Rattle.std.specs.Prelude.{List, map}
use Rattle.std.specs.declared.cmp.Ordering.{Ordering}
use Rattle.nr_model.specs.Items.{Connection, Item, connection_cmp}
use Rattle.nr_entry.specs.Kinds.{deed_of}
use Rattle.nr_entry.specs.declared.conn.ConnId.{ConnId}
use Rattle.nr_entry.specs.declared.job.Job.{Job}

abbrev pub connection_of : ConnId → Connection
connection_of conn = record { node = conn.node; serial = conn.serial }

abbrev pub conn_cmp : ConnId → ConnId → Ordering
conn_cmp a b = connection_cmp (connection_of a) (connection_of b)

abbrev pub item_of : Job → Item
item_of job = record { connection = connection_of job.conn; number = job.number; moment = job.moment; deed = deed_of job.kind }

abbrev pub items_of : List Job → List Item
items_of jobs = map item_of jobs
