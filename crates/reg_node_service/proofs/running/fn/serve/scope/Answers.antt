use denote.Param.Send.{param_send}
use Rattle.reg_node_service.proofs.running.fn.serve.scope.Goals as goal

-- What the scope owes of its bounds: each node's kinds of standing and of desk can be sent. The bounds stand behind those on lifetimes.

pub start_nodes-started-requires-send-T1 : goal.start_nodes-started-requires-send-T1
start_nodes-started-requires-send-T1 g c κs within = param_send 1 g.row.T1 c.requires.1.1.1.1.1.1.1.1.1.1.1.1.0

pub start_nodes-started-requires-send-D1 : goal.start_nodes-started-requires-send-D1
start_nodes-started-requires-send-D1 g c κs within = param_send 2 g.row.D1 c.requires.1.1.1.1.1.1.1.1.1.1.1.1.1

pub start_nodes-started-requires-send-T2 : goal.start_nodes-started-requires-send-T2
start_nodes-started-requires-send-T2 g c κs within = param_send 4 g.row.T2 c.requires.1.1.1.1.1.1.1.1.1.1.1.1.2

pub start_nodes-started-requires-send-D2 : goal.start_nodes-started-requires-send-D2
start_nodes-started-requires-send-D2 g c κs within = param_send 5 g.row.D2 c.requires.1.1.1.1.1.1.1.1.1.1.1.1.3

pub start_nodes-started-requires-send-T3 : goal.start_nodes-started-requires-send-T3
start_nodes-started-requires-send-T3 g c κs within = param_send 7 g.row.T3 c.requires.1.1.1.1.1.1.1.1.1.1.1.1.4

pub start_nodes-started-requires-send-D3 : goal.start_nodes-started-requires-send-D3
start_nodes-started-requires-send-D3 g c κs within = param_send 8 g.row.D3 c.requires.1.1.1.1.1.1.1.1.1.1.1.1.5
