mod Collected
